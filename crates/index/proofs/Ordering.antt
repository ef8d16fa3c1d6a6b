-- The order of the marks is total.
use Rattle.std.specs.Prelude.{◌≤◌, ◌<◌, ◌≡◌, ◌∷◌, ◌++◌, ◌⊎◌, nat_eq, Some}
use Rattle.wire.proofs.Kit.{ℕ, suc, refl, sym, ap, ◌∙◌, List, [], map, Bool, true, false, inl, inr, ⊎_elim, arith}
use Rattle.wire.proofs.Kit.{ltb, lt-ltb, le-ltb, eq-eqb, ne_eqb, ltb-true, ltb-false}
use Rattle.std.specs.declared.cmp.Ordering.{Ordering}
use Rattle.std.specs.declared.cmp.Ordering.TheVariants.{Less, Equal, Greater}
use Rattle.std.specs.Ordering.{nat_cmp, is_eq, is_lt, is_some_and, partial_ordering_then}
use Rattle.std.specs.Cmp.Lexicographic.{slice_cmp, pointwise}
use Rattle.wire.proofs.Laws.{false_true}
use Rattle.index.specs.declared.mark.Mark.{Mark}
use Rattle.index.specs.Order.{order_of, key_of, lower, rank, before}
use Rattle.index.proofs.Rows.{mark_means}
use Rattle.index.proofs.Sorting.{Total}

-- ---- rows of numbers

pub three : (x y : ℕ) → (x < y) ⊎ ((x ≡ y) ⊎ (y < x))
three x y = go (ltb x y) refl (ltb y x) refl
  where
    go : (t : Bool) → ltb x y ≡ t → (u : Bool) → ltb y x ≡ u → (x < y) ⊎ ((x ≡ y) ⊎ (y < x))
    go true h u g = inl (ltb-true x y h)
    go false h true g = inr (inr (ltb-true y x g))
    go false h false g = inr (inl (omega (arith, ltb-false x y h, ltb-false y x g)))

-- two texts are in the order that std's comparison answers
pub cmp_order : (a b : List ℕ) → slice_cmp nat_cmp a b ≡ order_of a b
unfolding order_of
cmp_order [] [] = refl
cmp_order [] (y ∷ b) = refl
cmp_order (x ∷ a) [] = refl
cmp_order (x ∷ a) (y ∷ b) =
    ⊎_elim (λ l. rw (lt-ltb x y l))
    (λ q. ⊎_elim (λ e. rw (e, le-ltb y y (omega arith), eq-eqb y y refl) (cmp_order a b)) (λ l. rw (le-ltb x y (omega arith), lt-ltb y x l, ne_eqb x y (λ e. omega arith))) q)
    (three x y)

-- and they are the same where std finds them equal
pub eq_order : (a b : List ℕ) → pointwise nat_eq a b ≡ is_eq (order_of a b)
unfolding order_of
eq_order [] [] = refl
eq_order [] (y ∷ b) = refl
eq_order (x ∷ a) [] = refl
eq_order (x ∷ a) (y ∷ b) =
    ⊎_elim (λ l. rw (lt-ltb x y l, ne_eqb x y (λ e. omega arith)))
    (λ q. ⊎_elim (λ e. rw (e, le-ltb y y (omega arith), eq-eqb y y refl) (eq_order a b)) (λ l. rw (le-ltb x y (omega arith), lt-ltb y x l, ne_eqb x y (λ e. omega arith))) q)
    (three x y)

module _ (x y : ℕ) (xs ys : List ℕ) where
  pub lower_lt : x < y → lower (x ∷ xs) (y ∷ ys) ≡ true
  unfolding lower
  lower_lt h = rw (lt-ltb x y h)

  pub lower_gt : y < x → lower (x ∷ xs) (y ∷ ys) ≡ false
  unfolding lower
  lower_gt h = rw (le-ltb x y (omega arith), lt-ltb y x h)

  pub lower_eq : x ≡ y → lower (x ∷ xs) (y ∷ ys) ≡ lower xs ys
  unfolding lower
  lower_eq h = rw (le-ltb x y (omega arith), le-ltb y x (omega arith))

  pub lower_le : lower (x ∷ xs) (y ∷ ys) ≡ false → y ≤ x
  lower_le h = ⊎_elim (λ l. absurd (false_true (sym h ∙ lower_lt l))) (λ q. ⊎_elim (λ e. omega arith) (λ l. omega arith) q) (three x y)

pub lower_asym : (a b : List ℕ) → lower a b ≡ true → lower b a ≡ false
unfolding lower
lower_asym [] [] h = refl
lower_asym [] (y ∷ b) h = refl
lower_asym (x ∷ a) [] h = absurd (false_true h)
lower_asym (x ∷ a) (y ∷ b) h =
    ⊎_elim (λ l. lower_gt y x b a l)
    (λ q. ⊎_elim (λ e. lower_eq y x b a (sym e) ∙ lower_asym a b (sym (lower_eq x y a b e) ∙ h)) (λ l. absurd (false_true (sym (lower_gt x y a b l) ∙ h))) q)
    (three x y)

pub lower_same : (a b : List ℕ) → lower a b ≡ false → lower b a ≡ false → a ≡ b
unfolding lower
lower_same [] [] h g = refl
lower_same [] (y ∷ b) h g = absurd (false_true (sym h))
lower_same (x ∷ a) [] h g = absurd (false_true (sym g))
lower_same (x ∷ a) (y ∷ b) h g =
    let e : x ≡ y = omega (arith, lower_le x y a b h, lower_le y x b a g) in
    let r : a ≡ b = lower_same a b (sym (lower_eq x y a b e) ∙ h) (sym (lower_eq y x b a (sym e)) ∙ g) in
    cc

pub lower_trans : (a b c : List ℕ) → lower b a ≡ false → lower c b ≡ false → lower c a ≡ false
unfolding lower
lower_trans [] b [] h g = refl
lower_trans [] b (z ∷ c) h g = refl
lower_trans (x ∷ a) [] c h g = absurd (false_true (sym h))
lower_trans (x ∷ a) (y ∷ b) [] h g = absurd (false_true (sym g))
lower_trans (x ∷ a) (y ∷ b) (z ∷ c) h g =
    ⊎_elim (λ l. lower_gt z x c a l)
    (λ q. ⊎_elim
    (λ e.
    let f : y ≡ x = omega (arith, lower_le y x b a h, lower_le z y c b g) in
    let f' : z ≡ y = omega arith in
    lower_eq z x c a (sym e) ∙ lower_trans a b c (sym (lower_eq y x b a f) ∙ h) (sym (lower_eq z y c b f') ∙ g))
    (λ l. absurd (omega (arith, lower_le y x b a h, lower_le z y c b g))) q)
    (three x z)

-- ---- texts that end

abbrev pub ended : List ℕ → List ℕ → List ℕ
ended t r = map suc t ++ (0 ∷ r)

ended_means : (t u r s : List ℕ) → ended t r ≡ ended u s → r ≡ s
ended_means [] [] r s e = cc
ended_means [] (y ∷ u) r s e = let z : 0 ≡ suc y = cc in absurd (omega arith)
ended_means (x ∷ t) [] r s e = let z : suc x ≡ 0 = cc in absurd (omega arith)
ended_means (x ∷ t) (y ∷ u) r s e = ended_means t u r s (cc)

abbrev pub by_order : Ordering → Bool → Bool
by_order Less t = true
by_order Equal t = t
by_order Greater t = false

pub lower_text : (t u r s : List ℕ) → lower (ended t r) (ended u s) ≡ by_order (order_of t u) (lower r s)
unfolding order_of
lower_text [] [] r s = lower_eq 0 0 r s refl
lower_text [] (y ∷ u) r s = lower_lt 0 (suc y) r (ended u s) (omega arith)
lower_text (x ∷ t) [] r s = lower_gt (suc x) 0 (ended t r) s (omega arith)
lower_text (x ∷ t) (y ∷ u) r s =
    ⊎_elim (λ l. lower_lt (suc x) (suc y) (ended t r) (ended u s) (omega arith) ∙ rw (lt-ltb x y l))
    (λ q. ⊎_elim
    (λ e. lower_eq (suc x) (suc y) (ended t r) (ended u s) (ap suc e) ∙ lower_text t u r s ∙ rw (le-ltb x y (omega arith), le-ltb y x (omega arith)))
    (λ l. lower_gt (suc x) (suc y) (ended t r) (ended u s) (omega arith) ∙ rw (le-ltb x y (omega arith), lt-ltb y x l)) q)
    (three x y)

-- ---- marks

module _ (image text : List ℕ) where
  rank_means : (a b : Mark) → rank image text a ≡ rank image text b → a ≡ b
  unfolding rank
  rank_means a b e =
      let r = ended_means (key_of image text a.key) (key_of image text b.key) (a.key ∷ a.value ∷ a.depth ∷ []) (b.key ∷ b.value ∷ b.depth ∷ []) (cc) in
      mark_means a b (cc) (cc) (cc) (cc)

  pub total : Total (before image text)
  unfolding before
  total = record {
    asym = λ a b h. lower_asym (rank image text a) (rank image text b) h;
    same = λ a b h g. rank_means a b (lower_same (rank image text a) (rank image text b) h g);
    trans = λ a b c h g. lower_trans (rank image text a) (rank image text b) (rank image text c) h g;
  }

-- ---- how the code compares

pub lower_differs : (x y : ℕ) (xs ys : List ℕ) → (x ≡ y → ⊥) → ltb x y ≡ lower (x ∷ xs) (y ∷ ys)
lower_differs x y xs ys n =
    ⊎_elim (λ l. lt-ltb x y l ∙ sym (lower_lt x y xs ys l))
    (λ q. ⊎_elim (λ e. absurd (n e)) (λ l. le-ltb x y (omega arith) ∙ sym (lower_gt x y xs ys l)) q)
    (three x y)

-- numbers as std compares them, the first that differ first
module _ (k v d l w e : ℕ) where
  ranked1 : is_lt (nat_cmp d e) ≡ lower (d ∷ []) (e ∷ [])
  unfolding lower
  ranked1 =
      ⊎_elim (λ h. rw (lt-ltb d e h))
      (λ q. ⊎_elim (λ h. rw (h, le-ltb e e (omega arith), eq-eqb e e refl)) (λ h. rw (le-ltb d e (omega arith), lt-ltb e d h, ne_eqb d e (λ q. omega arith))) q)
      (three d e)

  ranked2 : is_some_and is_lt (partial_ordering_then (Some (nat_cmp v w)) (Some (nat_cmp d e))) ≡ lower (v ∷ d ∷ []) (w ∷ e ∷ [])
  unfolding lower
  ranked2 =
      ⊎_elim (λ h. rw (lt-ltb v w h))
      (λ q. ⊎_elim (λ h. rw (h, le-ltb w w (omega arith), eq-eqb w w refl) ranked1) (λ h. rw (le-ltb v w (omega arith), lt-ltb w v h, ne_eqb v w (λ q. omega arith))) q)
      (three v w)

  lower_three : is_some_and is_lt (partial_ordering_then (partial_ordering_then (Some (nat_cmp k l)) (Some (nat_cmp v w))) (Some (nat_cmp d e))) ≡ lower (k ∷ v ∷ d ∷ []) (l ∷ w ∷ e ∷ [])
  unfolding lower
  lower_three =
      ⊎_elim (λ h. rw (lt-ltb k l h))
      (λ q. ⊎_elim (λ h. rw (h, le-ltb l l (omega arith), eq-eqb l l refl) ranked2) (λ h. rw (le-ltb k l (omega arith), lt-ltb l k h, ne_eqb k l (λ q. omega arith))) q)
      (three k l)

module _ (image text : List ℕ) (a b : Mark) where
  pub by_container : (a.container ≡ b.container → ⊥) → ltb a.container b.container ≡ before image text a b
  unfolding before rank
  by_container n = lower_differs a.container b.container _ _ n

  module _ (same : a.container ≡ b.container) (o : Ordering) (x y : List ℕ) (at_a : x ≡ key_of image text a.key) (at_b : y ≡ key_of image text b.key) (e : o ≡ order_of x y) where
    pub by_key : by_order o (lower (a.key ∷ a.value ∷ a.depth ∷ []) (b.key ∷ b.value ∷ b.depth ∷ [])) ≡ before image text a b
    unfolding before rank
    by_key =
        rw (e, at_a, at_b)
        (sym (lower_eq a.container b.container _ _ same ∙ lower_text (key_of image text a.key) (key_of image text b.key) _ _))

    -- the rest of the rank tells apart two of one text
    pub by_rest : o ≡ Equal → is_some_and is_lt (partial_ordering_then (partial_ordering_then (Some (nat_cmp a.key b.key)) (Some (nat_cmp a.value b.value))) (Some (nat_cmp a.depth b.depth))) ≡ before image text a b
    by_rest s = lower_three a.key a.value a.depth b.key b.value b.depth ∙ (rw s at by_key)
