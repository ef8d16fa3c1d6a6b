-- The row that `riddoskam_packet_cut` leaves, and what `riddoskam_packet_nth` leaves.
use Rattle.std.specs.Prelude.{◌*◌, ◌-◌, ◌<◌, ◌≡◌, ◌∷◌, ◌++◌}
use Rattle.wire.proofs.Kit.{ℕ, zero, suc, refl, List, [], Bool, true, false, arith, length, get_or, take, drop, replicate, leb}
use Rattle.wire.proofs.Kit.{lt-ltb}
use Rattle.wire.specs.Choice.{pick}
use Rattle.packet.specs.declared.head.Entry.{Entry}
use Rattle.packet.specs.Entry.{Cut, found, stops, cut_of, no_entry, uncut, listed, list_of, found_in}
use Rattle.packet.specs.Row.{entry_numbers, numbers_of, row_of}
use Rattle.packet.proofs.Laws.{all}
use Rattle.riddoskam.specs.Numbers.{found_numbers}

numbers_at : (es : List Entry) (r : List ℕ) (k : ℕ) → k < length es → take 8 (drop (8 * k) (numbers_of es ++ r)) ≡ entry_numbers (get_or es k no_entry)
unfolding numbers_of
numbers_at [] r k h = absurd (omega arith)
numbers_at (e ∷ es) r zero h = refl
numbers_at (e ∷ es) r (suc k) h =
    let m : 8 * suc k ≡ suc (suc (suc (suc (suc (suc (suc (suc (8 * k)))))))) = omega arith in
    rw m (numbers_at es r k (omega arith))

-- What the row has at a number below the count is what `riddoskam_packet_nth` leaves for that number.
pub row_nth : (s : List ℕ) (room n k : ℕ) → k < (list_of s room).cutting.count
    → take 8 (drop (8 * k) (row_of (list_of s room).entries n)) ≡ found_numbers (found_in (cut_of s) k)
unfolding list_of
row_nth s room n k = go (cut_of s)
  where
    fit : (es : List Entry) (z : ℕ) (t : Bool) → k < (pick t (all es z) (uncut 4 0)).cutting.count
        → take 8 (drop (8 * k) (row_of (pick t (all es z) (uncut 4 0)).entries n)) ≡ found_numbers (found_in (found es z) k)
    fit es z true h = rw (lt-ltb k (length es) h) (numbers_at es (replicate (n - length (numbers_of es)) 0) k h)
    fit es z false h = absurd (omega arith)

    go : (x : Cut) → k < (listed x room).cutting.count → take 8 (drop (8 * k) (row_of (listed x room).entries n)) ≡ found_numbers (found_in x k)
    go (found es z) h = fit es z (leb (length es) room) h
    go (stops a p) h = absurd (omega arith)
