-- The buffer that holds an index, as marks to look up in.
use Rattle.std.specs.Prelude.{◌+◌, ◌-◌, ◌*◌, ◌/◌, ◌≤◌, ◌<◌, ◌≡◌, ◌∷◌, ◌++◌}
use Rattle.wire.proofs.Kit.{ℕ, zero, suc, refl, sym, ap, ◌∙◌, List, [], append-nil, append_assoc, inl, inr, arith}
use Rattle.wire.proofs.Kit.{length, get_or, take, drop, replicate, length-append, drop-drop}
use Rattle.wire.specs.Number.{number}
use Rattle.wire.proofs.Laws.{number_digits}
use Rattle.index.specs.declared.mark.Mark.{Mark}
use Rattle.index.specs.Mark.{mark_at, mark_bytes, flat, rows_at, rows, nothing, Small}
use Rattle.index.specs.Index.{Holds}
use Rattle.index.proofs.Rows.{mark_means, length_rows_at}
use Rattle.index.proofs.Sorting.{shuffled_length}
use Rattle.index_theorems.specs.Stand.{In, Standing}
use Rattle.index_theorems.proofs.Latest.{back, Kept}

-- ---- marks in bytes and back

mark_of : (l : List ℕ) (at : ℕ) (e : Mark) (r : List ℕ) → drop at l ≡ mark_bytes e ++ r → Small e → mark_at l at ≡ e
unfolding mark_at
mark_of l at e r z s =
    let part : (o : ℕ) → drop (at + o) l ≡ drop o (mark_bytes e ++ r) = λ o. sym (drop-drop o at l) ∙ ap (λ (k : List ℕ). drop o k) z in
    mark_means _ e
    (ap (λ (k : List ℕ). number (take 1 k)) z ∙ omega arith)
    (ap (λ (k : List ℕ). number (take 4 k)) (part 1) ∙ number_digits 4 e.container s.container)
    (ap (λ (k : List ℕ). number (take 4 k)) (part 5) ∙ number_digits 4 e.key s.key)
    (ap (λ (k : List ℕ). number (take 4 k)) (part 9) ∙ number_digits 4 e.value s.value)

pub flat_length : (es : List Mark) → length (flat es) ≡ 13 * length es
flat_length [] = refl
flat_length (e ∷ es) = omega (arith, length-append (mark_bytes e) (flat es), flat_length es)

rows_at_flat : (es : List Mark) → ((e : Mark) → In e es → Small e) → (l : List ℕ) (at : ℕ) (r : List ℕ) → drop at l ≡ flat es ++ r → rows_at (length es) at l ≡ es
unfolding rows_at
rows_at_flat [] s l at r z = refl
rows_at_flat (e ∷ es) s l at r z =
    let y : drop at l ≡ mark_bytes e ++ (flat es ++ r) = z ∙ append_assoc (mark_bytes e) (flat es) r in
    let x : drop (at + 13) l ≡ flat es ++ r = sym (drop-drop 13 at l) ∙ ap (λ (k : List ℕ). drop 13 k) y in
    rw (mark_of l at e (flat es ++ r) y (s e (inl refl)), rows_at_flat es (λ x i. s x (inr i)) l (at + 13) r x)

-- the marks of bytes that are those of marks
pub rows_flat : (es : List Mark) → ((e : Mark) → In e es → Small e) → rows (length (flat es) / 13) (flat es) ≡ es
rows_flat es s =
    let n : length (flat es) / 13 ≡ length es = omega (arith, flat_length es) in
    rw n (rows_at_flat es s (flat es) 0 [] (sym (append-nil (flat es))))

-- ---- with zeros behind them

small_nothing : Small nothing
small_nothing = record { depth = omega arith; container = omega arith; key = omega arith; value = omega arith }

zeros : (l : List ℕ) (at z : ℕ) → drop at l ≡ replicate z 0 → 13 ≤ z → (mark_at l at ≡ nothing) × (drop (at + 13) l ≡ replicate (z - 13) 0)
zeros l at z h g =
    let q : z ≡ suc (suc (suc (suc (suc (suc (suc (suc (suc (suc (suc (suc (suc (z - 13))))))))))))) = omega arith in
    let y : drop at l ≡ mark_bytes nothing ++ replicate (z - 13) 0 = h ∙ ap (λ (k : ℕ). replicate {A = ℕ} k 0) q in
    (mark_of l at nothing (replicate (z - 13) 0) y small_nothing, sym (drop-drop 13 at l) ∙ ap (λ (k : List ℕ). drop 13 k) y)

padded_rows : (n : ℕ) (row : List Mark) → ((e : Mark) → In e row → Small e) → (l : List ℕ) (at z : ℕ) → drop at l ≡ flat row ++ replicate z 0 → length row ≤ n
    → 13 * n ≤ 13 * length row + z → (i : ℕ) → get_or (rows_at n at l) i nothing ≡ get_or row i nothing
unfolding rows_at
padded_rows zero [] s l at z h g b i = refl
padded_rows zero (e ∷ row) s l at z h g b i = absurd (omega arith)
padded_rows (suc n) [] s l at z h g b zero = (zeros l at z h (omega arith)).0
padded_rows (suc n) [] s l at z h g b (suc i) = padded_rows n [] s l (at + 13) (z - 13) (zeros l at z h (omega arith)).1 (omega arith) (omega arith) i
padded_rows (suc n) (e ∷ row) s l at z h g b zero =
    mark_of l at e (flat row ++ replicate z 0) (h ∙ append_assoc (mark_bytes e) (flat row) (replicate z 0)) (s e (inl refl))
padded_rows (suc n) (e ∷ row) s l at z h g b (suc i) =
    let y : drop at l ≡ mark_bytes e ++ (flat row ++ replicate z 0) = h ∙ append_assoc (mark_bytes e) (flat row) (replicate z 0) in
    padded_rows n row (λ x j. s x (inr j)) l (at + 13) z (sym (drop-drop 13 at l) ∙ ap (λ (k : List ℕ). drop 13 k) y) (omega arith) (omega arith) i

-- the marks of a buffer that holds those of keys
pub held : (image s : List ℕ) (keys : List Mark) (index : List ℕ) → Holds image s keys index → 13 * length keys ≤ length index → ((m : Mark) → In m keys → Small m)
    → ((m : Mark) → In m keys → 0 < m.depth) → ((m : Mark) → In m keys → Standing image s m) → Kept image s keys (rows (length index / 13) index)
held image s keys index h room small deep stand =
    let row : List Mark = h.row in
    let n : length keys ≡ length row = shuffled_length h.sorted.same in
    let f = flat_length row in
    record {
      row = row;
      sorted = h.sorted;
      same = padded_rows (length index / 13) row (λ e i. small e (back h.sorted.same e i)) index 0 (length index - length (flat row)) h.bytes
          (omega arith) (omega arith);
      longer = omega (arith, length_rows_at (length index / 13) 0 index);
      deep = deep;
      stand = stand;
    }
