-- The laws of a row of entries' numbers.
use Rattle.std.specs.Prelude.{◌+◌, ◌*◌, ◌-◌, ◌≤◌, ◌<◌, ◌≡◌, ◌∷◌, ◌++◌, Some}
use Rattle.wire.proofs.Kit.{ℕ, refl, sym, ap, ◌∙◌, List, [], append-nil, arith, length, take, drop, replicate}
use Rattle.wire.proofs.Kit.{length-append, take_at, length-take-le}
use Rattle.packet.specs.declared.head.Entry.{Entry}
use Rattle.packet.specs.declared.entry.Cutting.{Cutting}
use Rattle.packet.specs.Entry.{Trail, Cut, puts, strict, Listed, listed}
use Rattle.packet.specs.Code.{past, first_of, counted_in}
use Rattle.packet.specs.Row.{entry_numbers, numbers_of, row_of}
use Rattle.packet.proofs.Laws.{strict_last, counting}

numbers_length : (es : List Entry) → length (numbers_of es) ≡ 8 * length es
unfolding numbers_of
numbers_length [] = refl
numbers_length (e ∷ es) = let h = numbers_length es in omega arith

numbers_last : (es : List Entry) (e : Entry) → numbers_of (es ++ e ∷ []) ≡ numbers_of es ++ entry_numbers e
unfolding numbers_of
numbers_last [] e = append-nil (entry_numbers e)
numbers_last (d ∷ es) e = ap (λ (r : List ℕ). entry_numbers d ++ r) (numbers_last es e)

-- the first n entries of a cut c are at the front of a row, and t is left of it
pub record Rowed (row : List ℕ) (n : ℕ) (t : Trail) (c : Cut) : Type 0 where
  pub entries : List Entry
  pub count : length entries ≡ n
  pub front : take (8 * n) row ≡ numbers_of entries
  pub whole : c ≡ strict (puts entries t)

pub rowed_none : (row : List ℕ) (t : Trail) {c : Cut} → strict t ≡ c → Rowed row 0 t c
unfolding numbers_of
rowed_none row t e = record { entries = []; count = refl; front = refl; whole = sym e }

-- one entry more
pub rowed_more : (row : List ℕ) (n : ℕ) (t : Trail) {c : Cut} {e : Entry} → 8 * n + 8 ≤ length row → first_of t.entries ≡ Some e
    → Rowed row n t c → Rowed (take (8 * n) row ++ entry_numbers e ++ drop (8 * n + 8) row) (n + 1) (past 1 t) c
rowed_more row n t {c} {e} h f r =
    let m : 8 * (n + 1) ≡ 8 * n + 8 = omega arith in
    let l : length (take (8 * n) row ++ entry_numbers e) ≡ 8 * n + 8 = simp (length-append, length-take-le (8 * n) row (omega arith)) in
    record {
      entries = r.entries ++ e ∷ [];
      count = rw (length-append r.entries (e ∷ []), r.count);
      front = rw m (take_at (take (8 * n) row ++ entry_numbers e) (drop (8 * n + 8) row) (8 * n + 8) l ∙ (rw r.front (sym (numbers_last r.entries e))));
      whole = r.whole ∙ strict_last r.entries t f;
    }

-- a cut that is counted, and a row that is cleared behind its entries, are what a cut comes to
pub record Rowing (row : List ℕ) (k : Cutting) (w : Listed) : Type 0 where
  pub cutting : k ≡ w.cutting
  pub left : take (8 * k.count) row ++ replicate (length row - 8 * k.count) 0 ≡ row_of w.entries (length row)

pub rowing : (row : List ℕ) (n room : ℕ) (t : Trail) {c : Cut} → n ≤ room → (0 < length t.entries → room ≤ n)
    → Rowed row n t c → Rowing row (counted_in t n) (listed c room)
unfolding numbers_of
rowing row n room t h s r =
    let m = numbers_length r.entries in
    rw r.whole
    (rw r.count at
    (counting (Rowing row) r.entries room t (omega (arith, r.count)) (λ e. omega (arith, s e, r.count))
    (λ z. record { cutting = refl; left = rw (m, r.count, r.front) })
    (λ a p. record { cutting = refl; left = refl })))
