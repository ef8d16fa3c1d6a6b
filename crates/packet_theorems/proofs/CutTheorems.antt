-- The theorems on the cut into a list, over what it comes to.
use Rattle.std.specs.Prelude.{◌≤◌, ◌<◌, ◌≡◌, ◌≢◌, ◌↔◌, ◌∷◌, ◌++◌, Ok}
use Rattle.wire.proofs.Kit.{ℕ, zero, suc, refl, sym, ap, List, [], arith, length, get_or, leb, leb-true, le-leb, lt-ltb}
use Rattle.wire.specs.Number.{Bytes}
use Rattle.wire.proofs.Laws.{picked}
use Rattle.amf0.specs.Span.{Changed}
use Rattle.packet.specs.declared.head.Entry.{Entry}
use Rattle.packet.specs.Entry.{Cut, found, stops, cut_of, no_entry, Listed, uncut, listed, list_of, filled, read_span, read_entry, found_in}
use Rattle.packet.specs.Change.{known_spans}
use Rattle.packet.proofs.Laws.{Splits, cut_told}
use Rattle.packet_theorems.proofs.Outcome.{ComesList, comes_list}
use Rattle.packet_theorems.proofs.Theorems.{entry_span}
use Rattle.packet_theorems.proofs.Demand3.{same_cut}

-- an answer of the cut: 0 to 5, or 7
pub record CutAnswer (a : ℕ) : Type 0 where
  pub high : a ≤ 7
  pub tree : a ≢ 6

stopped : (s : List ℕ) {a p : ℕ} → cut_of s ≡ stops a p → Splits s (stops a p)
stopped s e = rw e at (cut_told s)

pub cut_answers : (s : List ℕ) (room : ℕ) → CutAnswer (list_of s room).cutting.answer
cut_answers s room = go (list_of s room) (comes_list s room)
  where
    go : (w : Listed) → ComesList s room w → CutAnswer w.cutting.answer
    go w (ComesList.not_cut e) = let c = (stopped s e).cuts in record { high = c.high; tree = c.tree }
    go w (ComesList.too_short e h) = record { high = omega arith; tree = λ z. omega arith }
    go w (ComesList.cut e h) = record { high = omega arith; tree = λ z. omega arith }

-- The answer is 4 exactly where the packet is cut, into more entries than the list has room for.
pub cut_short : (s : List ℕ) (room : ℕ) → (list_of s room).cutting.answer ≡ 4 ↔ (es : List Entry) × (cut_of s ≡ found es (length s)) × (room < length es)
cut_short s room = (go (list_of s room) (comes_list s room), λ x. back (list_of s room) (comes_list s room) x.1 x.2)
  where
    go : (w : Listed) → ComesList s room w → w.cutting.answer ≡ 4 → (es : List Entry) × (cut_of s ≡ found es (length s)) × (room < length es)
    go w (ComesList.not_cut e) z = absurd ((stopped s e).cuts.room z)
    go w (ComesList.too_short {es} e h) z = (es, e, h)
    go w (ComesList.cut e h) z = absurd (omega arith)

    back : (w : Listed) → ComesList s room w → {fs : List Entry} → cut_of s ≡ found fs (length s) → room < length fs → w.cutting.answer ≡ 4
    back w (ComesList.not_cut e) f l = let z : ◌≡◌ {A = ℕ} 0 1 = cc in absurd (omega arith)
    back w (ComesList.too_short e h) f l = refl
    back w (ComesList.cut {es} e h) {fs} f l = let g : es ≡ fs = cc in absurd (omega (arith, ap length g))

-- Where a list does, every longer one gives the same.
pub cut_more : (s : List ℕ) (room more : ℕ) → room ≤ more → (list_of s room).cutting.answer ≢ 4 → list_of s more ≡ list_of s room
unfolding list_of
cut_more s room more h = go (cut_of s)
  where
    go : (x : Cut) → (listed x room).cutting.answer ≢ 4 → listed x more ≡ listed x room
    go (stops a p) = λ n. refl
    go (found es z) =
        picked (λ w. w.cutting.answer ≢ 4 → listed (found es z) more ≡ w) (leb (length es) room) _ _
        (λ t n. rw (le-leb (length es) more (omega (arith, leb-true (length es) room t)))) (λ t n. absurd (n refl))

-- A refused cut returns a place for the packet's bytes, counts 0, and has no entry of a list.
pub cut_refused : (s : List ℕ) (room : ℕ) → (list_of s room).cutting.answer ≢ 0
    → list_of s room ≡ uncut (list_of s room).cutting.answer (list_of s room).cutting.used
cut_refused s room = go (list_of s room) (comes_list s room)
  where
    go : (w : Listed) → ComesList s room w → w.cutting.answer ≢ 0 → w ≡ uncut w.cutting.answer w.cutting.used
    go w (ComesList.not_cut e) ne = refl
    go w (ComesList.too_short e h) ne = refl
    go w (ComesList.cut e h) ne = absurd (ne refl)

get_d_front : (es fs : List Entry) (k : ℕ) (d : Entry) → k < length es → get_or (es ++ fs) k d ≡ get_or es k d
get_d_front [] fs k d h = absurd (omega arith)
get_d_front (e ∷ es) fs zero d h = refl
get_d_front (e ∷ es) fs (suc k) d h = get_d_front es fs k d (omega arith)

-- What an accepted cut has in the list at a number below its count is what `nth` finds by that number.
pub cut_nth : (s : List ℕ) (room k : ℕ) → k < (list_of s room).cutting.count
    → found_in (cut_of s) k ≡ Ok (get_or (filled (list_of s room).entries room) k no_entry)
cut_nth s room k = go (list_of s room) (comes_list s room)
  where
    go : (w : Listed) → ComesList s room w → k < w.cutting.count → found_in (cut_of s) k ≡ Ok (get_or (filled w.entries room) k no_entry)
    go w (ComesList.not_cut e) h = absurd (omega arith)
    go w (ComesList.too_short e l) h = absurd (omega arith)
    go w (ComesList.cut {es} e l) h = rw (e, lt-ltb k (length es) h) (ap Ok (sym (get_d_front es _ k no_entry h)))

-- So the span of an entry that an accepted cut has in the list reads as that entry does by its number.
pub cut_span : (s : List ℕ) (list k room : ℕ) → k < (list_of s list).cutting.count
    → let e = get_or (filled (list_of s list).entries list) k no_entry in read_span s e.place e.length room ≡ read_entry s k room
cut_span s list k room h = entry_span s k room (get_or (filled (list_of s list).entries list) k no_entry) (cut_nth s list k h)

-- Demand 3, for the list: a packet that is cut, with other bytes inside its values of a known length and nothing else changed, is cut into the same list.
pub same_list : (s t : List ℕ) (es : List Entry) (n room : ℕ) → Bytes s → cut_of s ≡ found es n → Changed (known_spans s es) s t → list_of t room ≡ list_of s room
unfolding list_of
same_list s t es n room bs e c = rw (same_cut s t es n bs e c)
