-- A step finds the latest pair of a key in a container, and nothing only where there is none.
use Rattle.std.specs.Prelude.{◌+◌, ◌-◌, ◌≤◌, ◌<◌, ◌≡◌, ◌∷◌, ◌++◌, ◌⊎◌, Some, None}
use Rattle.wire.proofs.Kit.{ℕ, zero, suc, refl, sym, ◌∙◌, List, [], true, false, inl, inr, ⊎_elim, add-zero, arith}
use Rattle.wire.proofs.Kit.{length, get_or}
use Rattle.index.specs.declared.mark.Mark.{Mark}
use Rattle.std.specs.declared.cmp.Ordering.TheVariants.{Equal}
use Rattle.index.specs.Mark.{nothing}
use Rattle.index.specs.Order.{order_of, key_of, before}
use Rattle.index.specs.Sort.{Shuffled, Rising, Sorted}
use Rattle.std.specs.Ordering.{}
use Rattle.index.specs.Find.{opens_at, last_of, step_of}
use Rattle.index.proofs.Ordering.{total, lower_le, by_key}
use Rattle.index_theorems.specs.Stand.{In, Standing}
use Rattle.index.proofs.Rows.{cases}
use Rattle.index_theorems.proofs.Lookup.{fits_of, fits_means, order_same, Ordered, found, none}

-- ---- a mark of a list

pub in_at : (l : List Mark) (i : ℕ) → i < length l → In (get_or l i nothing) l
in_at [] i h = absurd (omega arith)
in_at (x ∷ l) zero h = inl refl
in_at (x ∷ l) (suc i) h = inr (in_at l i (omega arith))

record At (e : Mark) (l : List Mark) : Type 0 where
  number : ℕ
  inside : number < length l
  same : get_or l number nothing ≡ e

at_in : (e : Mark) (l : List Mark) → In e l → At e l
at_in e [] i = absurd i
at_in e (x ∷ l) (inl q) = record { number = 0; inside = omega arith; same = sym q }
at_in e (x ∷ l) (inr i) = let r = at_in e l i in record { number = suc r.number; inside = omega (arith, r.inside); same = r.same }

pub in_both : (e : Mark) (a b : List Mark) → In e (a ++ b) → In e a ⊎ In e b
in_both e [] b i = inr i
in_both e (x ∷ a) b (inl q) = inl (inl q)
in_both e (x ∷ a) b (inr i) = ⊎_elim (λ j. inl (inr j)) (λ j. inr j) (in_both e a b i)

pub in_left : (e : Mark) (a b : List Mark) → In e a → In e (a ++ b)
in_left e [] b i = absurd i
in_left e (x ∷ a) b (inl q) = inl q
in_left e (x ∷ a) b (inr i) = inr (in_left e a b i)

pub in_right : (e : Mark) (a b : List Mark) → In e b → In e (a ++ b)
in_right e [] b i = i
in_right e (x ∷ a) b i = inr (in_right e a b i)

-- ---- the same marks in another order

pub into : {xs ys : List Mark} → Shuffled xs ys → (e : Mark) → In e xs → In e ys
into Shuffled.none e i = i
into (Shuffled.keep s) e i = ⊎_elim (λ q. inl q) (λ j. inr (into s e j)) i
into Shuffled.swap e i = ⊎_elim (λ q. inr (inl q)) (λ j. ⊎_elim (λ q. inl q) (λ k. inr (inr k)) j) i
into (Shuffled.then s t) e i = into t e (into s e i)

pub back : {xs ys : List Mark} → Shuffled xs ys → (e : Mark) → In e ys → In e xs
back Shuffled.none e i = i
back (Shuffled.keep s) e i = ⊎_elim (λ q. inl q) (λ j. inr (back s e j)) i
back Shuffled.swap e i = ⊎_elim (λ q. inr (inl q)) (λ j. ⊎_elim (λ q. inl q) (λ k. inr (inr k)) j) i
back (Shuffled.then s t) e i = back s e (back t e i)

module _ (image text : List ℕ) where
  -- none comes before any that it stands behind
  far : (row : List Mark) → Rising (before image text) (length row) row → (i d : ℕ) → i + d < length row
      → before image text (get_or row (i + d) nothing) (get_or row i nothing) ≡ false
  far row r i zero h =
      rw (add-zero i) (cases (before image text (get_or row i nothing) (get_or row i nothing)) (λ e. (total image text).asym _ _ e) (λ e. e))
  far row r i (suc d) h =
      let q : i + suc d ≡ i + d + 1 = omega arith in
      rw q
      ((total image text).trans (get_or row i nothing) (get_or row (i + d) nothing) (get_or row (i + d + 1) nothing) (far row r i d (omega arith)) (r (i + d) (omega arith)))

  -- Marks to look up in: those of `all` in order, and zeros behind them. Each stands, and is of a depth.
  pub record Kept (all es : List Mark) : Type 0 where
    pub row : List Mark
    pub sorted : Sorted (before image text) all row
    pub same : (i : ℕ) → get_or es i nothing ≡ get_or row i nothing
    pub longer : length row ≤ length es
    pub deep : (m : Mark) → In m all → 0 < m.depth
    pub stand : (m : Mark) → In m all → Standing image text m

  ordered : (all es : List Mark) (k : Kept all es) → Ordered image text k.row es
  ordered all es k = record {
    sorted = λ i j h g.
        let q : i + (j - i) ≡ j = omega arith in
        rw q at (far k.row k.sorted.rising i (j - i) (omega arith));
    deep = λ i h. k.deep _ (back k.sorted.same _ (in_at k.row i h));
    stand = λ i h. k.stand _ (back k.sorted.same _ (in_at k.row i h));
    same = k.same;
    longer = k.longer;
  }

  -- ---- looking up

  module _ (c : ℕ) (key : List ℕ) (all es : List Mark) (k : Kept all es) where
    -- the latest of the container's pairs of that key, whose value stands at v
    pub record Latest (v : ℕ) : Type 0 where
      pub pair : Mark
      pub among : In pair all
      pub value : pair.value ≡ v
      pub container : c ≡ pair.container
      pub key_text : key ≡ key_of image text pair.key
      pub latest : (x : Mark) → In x all → fits_of image text c key x ≡ true → x.key ≤ pair.key

    later : (e x : Mark) → fits_of image text c key e ≡ true → fits_of image text c key x ≡ true → before image text e x ≡ false → x.key ≤ e.key
    later e x g f b =
        let n = fits_means image text c key e g in
        let m = fits_means image text c key x f in
        let o : Equal ≡ order_of (key_of image text e.key) (key_of image text x.key) = rw (← n.1, ← m.1) (sym (order_same key)) in
        lower_le e.key x.key (e.value ∷ e.depth ∷ []) (x.value ∷ x.depth ∷ [])
        (by_key image text e x (sym n.0 ∙ m.0) Equal _ _ refl refl o ∙ b)

    abbrev row : List Mark
    row = k.row

    last_finds : (v : ℕ) → last_of image text es c key ≡ Some v → Latest v
    last_finds v s =
        let o = ordered all es k in
        let r = found image text c key row es o v s in
        let e : Mark = get_or row r.number nothing in
        let m = fits_means image text c key e r.fits in
        record {
          pair = e;
          among = back k.sorted.same e (in_at row r.number r.inside);
          value = r.value;
          container = m.0;
          key_text = m.1;
          latest = λ x i f.
              let p = at_in x row (into k.sorted.same x i) in
              later e x r.fits f (rw p.same at (o.sorted p.number r.number (r.last p.number p.inside (rw p.same f)) r.inside));
        }

    last_misses : last_of image text es c key ≡ None → (x : Mark) → In x all → fits_of image text c key x ≡ true → ⊥
    last_misses s x i f =
        let p = at_in x row (into k.sorted.same x i) in
        none image text c key row es (ordered all es k) s p.number p.inside (rw p.same f)

    pub step_finds : (v : ℕ) → step_of image text es c key ≡ Some v → Latest v
    unfolding step_of
    step_finds v =
        cases (opens_at image c) (λ h. rw h (λ s. last_finds v s))
        (λ h. rw h (λ s. let z : ◌≡◌ {A = ℕ} 0 1 = cc in absurd (omega arith)))

    pub step_misses : opens_at image c ≡ true → step_of image text es c key ≡ None → (x : Mark) → In x all → fits_of image text c key x ≡ true → ⊥
    unfolding step_of
    step_misses h = rw h (λ s. last_misses s)
