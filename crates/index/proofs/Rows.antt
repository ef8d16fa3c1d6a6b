-- Marks in bytes: what stands there after a store.
use Rattle.std.specs.Prelude.{◌+◌, ◌-◌, ◌*◌, ◌≤◌, ◌<◌, ◌≡◌, ◌++◌, ◌⊎◌}
use Rattle.wire.proofs.Kit.{ℕ, zero, suc, refl, sym, ap, ◌∙◌, List, append_assoc, inl, inr, ⊎_elim}
use Rattle.wire.proofs.Kit.{arith, Bool, true, false, eqb-true, eqb-false, ltb-true, ltb-false, eqb, ltb, length, get_or, take, drop, set}
use Rattle.wire.proofs.Kit.{length-set, length-drop, take-append-drop, sets, sets-eq, drop-drop, drop-append-le, drop_at, take-append-le}
use Rattle.wire.proofs.Kit.{length-take-le}
use borrow.Rule.Slice.PartMut.{put_mid}
use lib.Seq.{get_or-set_same, get_or-set_other, ext_get_or}
use Rattle.wire.specs.Number.{number}
use Rattle.wire.specs.Field.{bytes_at}
use Rattle.wire.proofs.Laws.{number_digits}
use Rattle.index.specs.declared.mark.Mark.{Mark}
use Rattle.index.specs.Mark.{mark_at, mark_bytes, Small, rows_at, rows, nothing}

-- ---- a store

-- a run written over a part
pub put_sets : (l : List ℕ) (at k : ℕ) (vs : List ℕ) → k ≡ length vs → at + length vs ≤ length l → put_mid at k l vs ≡ sets l at vs
put_sets l at k vs e h = rw (e, sets-eq vs l at h, append_assoc (take at l) vs (drop (at + length vs) l), drop-drop (length vs) at l)

-- ---- what stands there then

-- from the place of the stores on
drop_sets : (l : List ℕ) (at : ℕ) (vs : List ℕ) → at + length vs ≤ length l → drop at (sets l at vs) ≡ vs ++ drop (at + length vs) l
drop_sets l at vs h = rw (sets-eq vs l at h, append_assoc (take at l) vs (drop (at + length vs) l)) (drop_at (take at l) _ at (length-take-le at l (omega arith)))

-- further on
pub drop_past : (l : List ℕ) (at q : ℕ) (vs : List ℕ) → at + length vs ≤ length l → at + length vs ≤ q → drop q (sets l at vs) ≡ drop q l
drop_past l at q vs h g =
    let m : ℕ = q - (at + length vs) in
    let e : at + (length vs + m) ≡ q = omega arith in
    let f : at + length vs + m ≡ q = omega arith in
    ap (λ (k : ℕ). drop k (sets l at vs)) (sym e)
    ∙ sym (drop-drop (length vs + m) at (sets l at vs))
    ∙ ap (λ (k : List ℕ). drop (length vs + m) k) (drop_sets l at vs h)
    ∙ sym (drop-drop m (length vs) (vs ++ drop (at + length vs) l))
    ∙ ap (λ (k : List ℕ). drop m k) (drop_at vs (drop (at + length vs) l) (length vs) refl)
    ∙ drop-drop m (at + length vs) l
    ∙ ap (λ (k : ℕ). drop k l) f

front : (w at q : ℕ) (l r : List ℕ) → at ≤ length l → q + w ≤ at → bytes_at w (take at l ++ r) q ≡ bytes_at w (take at l) q
front w at q l r h g =
    let n : length (take at l) ≡ at = length-take-le at l h in
    rw (drop-append-le q (take at l) r (omega arith)) (take-append-le w (drop q (take at l)) r (simp length-drop (omega arith)))

-- before it
bytes_before : (w : ℕ) (l : List ℕ) (at q : ℕ) (vs : List ℕ) → at + length vs ≤ length l → q + w ≤ at → bytes_at w (sets l at vs) q ≡ bytes_at w l q
bytes_before w l at q vs h g =
    ap (λ (k : List ℕ). bytes_at w k q) (sets-eq vs l at h ∙ append_assoc (take at l) vs (drop (at + length vs) l))
    ∙ front w at q l (vs ++ drop (at + length vs) l) (omega arith) g
    ∙ sym (front w at q l (drop at l) (omega arith) g)
    ∙ ap (λ (k : List ℕ). bytes_at w k q) (take-append-drop at l)

bytes_beside : (w : ℕ) (l : List ℕ) (at q : ℕ) (vs : List ℕ) → at + length vs ≤ length l → (q + w ≤ at) ⊎ (at + length vs ≤ q) → bytes_at w (sets l at vs) q ≡ bytes_at w l q
bytes_beside w l at q vs h (inl g) = bytes_before w l at q vs h g
bytes_beside w l at q vs h (inr g) = ap (λ (k : List ℕ). take w k) (drop_past l at q vs h g)

pub mark_means : (a b : Mark) → a.depth ≡ b.depth → a.container ≡ b.container → a.key ≡ b.key → a.value ≡ b.value → a ≡ b
mark_means a b d c k v = λ i. record { depth = d i; container = c i; key = k i; value = v i }

module _ (l : List ℕ) (at : ℕ) (e : Mark) (h : at + 13 ≤ length l) where
  mark_same : Small e → mark_at (sets l at (mark_bytes e)) at ≡ e
  unfolding mark_at
  mark_same s =
      let S : List ℕ = sets l at (mark_bytes e) in
      let R : List ℕ = drop (at + 13) l in
      let z : drop at S ≡ mark_bytes e ++ R = drop_sets l at (mark_bytes e) h in
      let part : (o : ℕ) → drop (at + o) S ≡ drop o (mark_bytes e ++ R) = λ o. sym (drop-drop o at S) ∙ ap (λ (k : List ℕ). drop o k) z in
      mark_means _ e
      (ap (λ (k : List ℕ). number (take 1 k)) z ∙ omega arith)
      (ap (λ (k : List ℕ). number (take 4 k)) (part 1) ∙ number_digits 4 e.container s.container)
      (ap (λ (k : List ℕ). number (take 4 k)) (part 5) ∙ number_digits 4 e.key s.key)
      (ap (λ (k : List ℕ). number (take 4 k)) (part 9) ∙ number_digits 4 e.value s.value)

  mark_beside : (q : ℕ) → (q + 13 ≤ at) ⊎ (at + 13 ≤ q) → mark_at (sets l at (mark_bytes e)) q ≡ mark_at l q
  unfolding mark_at
  mark_beside q (inl g) =
      mark_means _ _
      (ap number (bytes_before 1 l at q (mark_bytes e) h (omega arith)))
      (ap number (bytes_before 4 l at (q + 1) (mark_bytes e) h (omega arith)))
      (ap number (bytes_before 4 l at (q + 5) (mark_bytes e) h (omega arith)))
      (ap number (bytes_before 4 l at (q + 9) (mark_bytes e) h (omega arith)))
  mark_beside q (inr g) =
      mark_means _ _
      (ap number (bytes_beside 1 l at q (mark_bytes e) h (inr g)))
      (ap number (bytes_beside 4 l at (q + 1) (mark_bytes e) h (inr (omega arith))))
      (ap number (bytes_beside 4 l at (q + 5) (mark_bytes e) h (inr (omega arith))))
      (ap number (bytes_beside 4 l at (q + 9) (mark_bytes e) h (inr (omega arith))))

-- ---- rows

pub length_rows_at : (n at : ℕ) (s : List ℕ) → length (rows_at n at s) ≡ n
unfolding rows_at
length_rows_at zero at s = refl
length_rows_at (suc n) at s = ap suc (length_rows_at n (at + 13) s)

rows_at_lem : (n at : ℕ) (s : List ℕ) (i : ℕ) → i < n → get_or (rows_at n at s) i nothing ≡ mark_at s (at + 13 * i)
unfolding rows_at
rows_at_lem zero at s i h = absurd (omega arith)
rows_at_lem (suc n) at s zero h = ap (λ (k : ℕ). mark_at s k) (omega arith)
rows_at_lem (suc n) at s (suc i) h = rows_at_lem n (at + 13) s i (omega arith) ∙ ap (λ (k : ℕ). mark_at s k) (omega arith)

pub rows_get : (n : ℕ) (s : List ℕ) (i : ℕ) → i < n → get_or (rows n s) i nothing ≡ mark_at s (13 * i)
rows_get n s i h = rows_at_lem n 0 s i h ∙ ap (λ (k : ℕ). mark_at s k) (omega arith)

pub clash : ◌≡◌ {A = ℕ} 0 1 → ⊥
clash e = omega arith

pub cases : {P : Type 0} (b : Bool) → (b ≡ true → P) → (b ≡ false → P) → P
cases true f g = f refl
cases false f g = g refl

pub decide : (m n : ℕ) → (m ≡ n) ⊎ (m ≡ n → ⊥)
decide m n = go (eqb m n) refl
  where
    go : (t : Bool) → eqb m n ≡ t → (m ≡ n) ⊎ (m ≡ n → ⊥)
    go true h = inl (eqb-true m n h)
    go false h = inr (eqb-false m n h)

apart13 : (k i : ℕ) → (k ≡ i → ⊥) → (13 * k + 13 ≤ 13 * i) ⊎ (13 * i + 13 ≤ 13 * k)
apart13 k i h = go (ltb k i) refl
  where
    go : (t : Bool) → ltb k i ≡ t → (13 * k + 13 ≤ 13 * i) ⊎ (13 * i + 13 ≤ 13 * k)
    go true g = inl (omega (arith, ltb-true k i g))
    go false g = inr (omega (arith, ltb-false k i g))

pub rows_set : (n : ℕ) (s : List ℕ) (i : ℕ) (e : Mark) → i < n → 13 * n ≤ length s → Small e
    → rows n (sets s (13 * i) (mark_bytes e)) ≡ set (rows n s) i e
rows_set n s i e h g m =
    ext_get_or nothing _ _ (length_rows_at n 0 _ ∙ sym (length-set (rows n s) i e ∙ length_rows_at n 0 s))
    λ k l.
    let t : k < n = rw (length_rows_at n 0 (sets s (13 * i) (mark_bytes e))) at l in
    let w : i < length (rows n s) = rw (length_rows_at n 0 s) h in
    let b : 13 * i + 13 ≤ length s = omega arith in
    rows_get n (sets s (13 * i) (mark_bytes e)) k t
    ∙ ⊎_elim
    (λ q. rw q (mark_same s (13 * i) e b m ∙ sym (get_or-set_same (rows n s) i e nothing w)))
    (λ q. mark_beside s (13 * i) e b (13 * k) (apart13 k i q) ∙ sym (get_or-set_other (rows n s) i k e nothing q ∙ rows_get n s k t))
    (decide k i)
