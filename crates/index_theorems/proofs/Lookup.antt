-- Among marks in order, with nothing but zeros behind them, looking up a key of a container finds the last mark that fits, and nothing only where none fits.
use Rattle.std.specs.Prelude.{◌+◌, ◌-◌, ◌/◌, ◌≤◌, ◌<◌, ◌≡◌, ◌∷◌, Some, None}
use Rattle.wire.proofs.Kit.{ℕ, zero, suc, refl, sym, ap, ◌∙◌, List, [], Bool, true, false, ⊎_elim, arith, ltb, eqb, length}
use Rattle.wire.proofs.Kit.{get_or, take, drop, le-ltb, ltb-true, ltb-false, le-leb, eqb-true, eqb-false, eq-eqb, ne_eqb}
use Rattle.wire.specs.Choice.{pick}
use Rattle.wire.specs.Text.{inside_of}
use Rattle.wire.specs.declared.cursor.Cursor.{Cursor}
use Rattle.wire.proofs.Laws.{false_true}
use Rattle.image.specs.Taking.{record_at, Taken}
use Rattle.index.specs.declared.mark.Mark.{Mark}
use Rattle.std.specs.declared.cmp.Ordering.{Ordering}
use Rattle.std.specs.declared.cmp.Ordering.TheVariants.{Less, Equal, Greater}
use Rattle.index.specs.declared.walk.Role.{Role}
use Rattle.index.specs.Mark.{nothing}
use Rattle.index.specs.Keys.{role_of, role_in, role_at}
use Rattle.index.specs.Order.{order_of, key_of, text_by, lower, rank, before}
use Rattle.std.specs.Ordering.{is_lt, is_eq}
use Rattle.index.specs.Find.{past_of, behind_by, behind_in, leads_of, upper_of, last_of}
use Rattle.index.proofs.Rows.{cases, decide}
use Rattle.index.proofs.Ordering.{ended, by_order, lower_text, lower_eq, lower_lt, lower_gt, lower_differs, lower_asym, lower_same, lower_trans, three}
use Rattle.index_theorems.specs.Stand.{Standing}

same_text : (a b : List ℕ) → order_of a b ≡ Equal → a ≡ b
unfolding order_of
same_text [] [] = λ e. refl
same_text [] (y ∷ b) = λ e. let z : ◌≡◌ {A = ℕ} 0 1 = cc in absurd (omega arith)
same_text (x ∷ a) [] = λ e. let z : ◌≡◌ {A = ℕ} 0 1 = cc in absurd (omega arith)
same_text (x ∷ a) (y ∷ b) =
    cases (ltb x y) (λ h. rw h (λ e. let z : ◌≡◌ {A = ℕ} 0 1 = cc in absurd (omega arith)))
    (λ h. cases (ltb y x) (λ g. rw (h, g) (λ e. let z : ◌≡◌ {A = ℕ} 0 1 = cc in absurd (omega arith)))
    (λ g. rw (h, g) (λ e. let p : x ≡ y = omega (arith, ltb-false x y h, ltb-false y x g) in let q : a ≡ b = same_text a b e in cc)))

is_eq_lem : (o : Ordering) → is_eq o ≡ true → o ≡ Equal
is_eq_lem Less g = absurd (false_true g)
is_eq_lem Equal g = refl
is_eq_lem Greater g = absurd (false_true g)

pub order_same : (t : List ℕ) → order_of t t ≡ Equal
unfolding order_of
order_same [] = refl
order_same (x ∷ t) = rw (le-ltb x x (omega arith)) (order_same t)

ended_same : (t u : List ℕ) → ended t [] ≡ ended u [] → t ≡ u
ended_same [] [] e = refl
ended_same [] (y ∷ u) e = let z : 0 ≡ suc y = cc in absurd (omega arith)
ended_same (x ∷ t) [] e = let z : suc x ≡ 0 = cc in absurd (omega arith)
ended_same (x ∷ t) (y ∷ u) e = let p : suc x ≡ suc y = cc in let q : x ≡ y = omega arith in let r : t ≡ u = ended_same t u (cc) in cc

-- ---- marks against a container and a key

module _ (image text : List ℕ) where
  -- what a mark is looked up by
  short : ℕ → List ℕ → List ℕ
  short c k = c ∷ ended k []

  of : Mark → List ℕ
  of e = short e.container (key_of image text e.key)

  by_less : (o : Ordering) → is_lt o ≡ by_order o false
  by_less Less = refl
  by_less Equal = refl
  by_less Greater = refl

  nil_nil : lower [] [] ≡ false
  unfolding lower
  nil_nil = refl

  weaker : (o : Ordering) (t : Bool) → by_order o t ≡ false → by_order o false ≡ false
  weaker Less t e = e
  weaker Equal t e = refl
  weaker Greater t e = refl

  -- the order of marks is that of what they are looked up by, where it tells them apart
  of_order : (a b : Mark) → before image text a b ≡ false → lower (of a) (of b) ≡ false
  unfolding before rank short of
  of_order a b h =
      let x = key_of image text a.key in
      let y = key_of image text b.key in
      let r = a.key ∷ a.value ∷ a.depth ∷ [] in
      let s = b.key ∷ b.value ∷ b.depth ∷ [] in
      ⊎_elim (λ l. absurd (false_true (sym h ∙ lower_lt a.container b.container (ended x r) (ended y s) l)))
      (λ q. ⊎_elim
      (λ e.
      lower_eq a.container b.container (ended x []) (ended y []) e ∙ lower_text x y [] [] ∙ ap (by_order (order_of x y)) nil_nil
      ∙ weaker (order_of x y) (lower r s) (sym (lower_eq a.container b.container (ended x r) (ended y s) e ∙ lower_text x y r s) ∙ h))
      (λ l. lower_gt a.container b.container (ended x []) (ended y []) l) q)
      (three a.container b.container)

  module _ (c : ℕ) (key : List ℕ) where
    -- a mark of the container and the key
    unfoldable pub fits_of : Mark → Bool
    fits_of m = pick (eqb c m.container) (is_eq (order_of key (key_of image text m.key))) false

    past_zero : (e : Mark) → e.depth ≡ 0 → past_of image text c key e ≡ true
    unfolding past_of
    past_zero e z = rw (eq-eqb e.depth 0 z)

    past_lower : (e : Mark) → 0 < e.depth → past_of image text c key e ≡ lower (short c key) (of e)
    unfolding past_of short of
    past_lower e d =
        let y = key_of image text e.key in
        ⊎_elim
        (λ (h : c ≡ e.container).
        rw (ne_eqb e.depth 0 (λ z. omega arith), eq-eqb c e.container h)
        (by_less (order_of key y)
        ∙ sym (lower_eq c e.container (ended key []) (ended y []) h ∙ lower_text key y [] [] ∙ ap (by_order (order_of key y)) nil_nil)))
        (λ h.
        rw (ne_eqb e.depth 0 (λ z. omega arith), ne_eqb c e.container h) (lower_differs c e.container (ended key []) (ended y []) h))
        (decide c e.container)

    pub fits_means : (e : Mark) → fits_of e ≡ true → (c ≡ e.container) × (key ≡ key_of image text e.key)
    unfolding fits_of
    fits_means e =
        cases (eqb c e.container)
        (λ h. rw h (λ g. (eqb-true c e.container h, same_text key _ (is_eq_lem _ g))))
        (λ h. rw h (λ g. absurd (false_true g)))

    pub fits_is : (e : Mark) → c ≡ e.container → key ≡ key_of image text e.key → fits_of e ≡ true
    unfolding fits_of
    fits_is e h k = rw (eq-eqb c e.container h, ← k, order_same key)

    fits_of_lem : (e : Mark) → fits_of e ≡ true → of e ≡ short c key
    unfolding short of
    fits_of_lem e f = let m = fits_means e f in rw (m.0, m.1)

    fits_eq : (e : Mark) → short c key ≡ of e → fits_of e ≡ true
    unfolding short of
    fits_eq e q =
        let h : c ≡ e.container = cc in
        fits_is e h (ended_same key (key_of image text e.key) (cc))

    -- ---- a mark that leads on

    by_role : (v : ℕ) (o : Role) (d : Cursor) → behind_by image text c key v o d ≡ true → key ≡ text_by text o
    by_role v (Role.Key p n) d =
        cases (eqb d.at v)
        (λ h. cases (inside_of text p n)
        (λ g. cases (is_eq (order_of key (take n (drop p text))))
        (λ f. rw (h, g, f) (λ e. same_text key _ (is_eq_lem _ f)))
        (λ f. rw (h, g, f) (λ e. absurd (false_true e))))
        (λ g. rw (h, g) (λ e. absurd (false_true e))))
        (λ h. rw h (λ e. absurd (false_true e)))
    by_role v (Role.Value p n f) d = λ e. absurd (false_true e)
    by_role v (Role.File p n) d = λ e. absurd (false_true e)
    by_role v Role.End d = λ e. absurd (false_true e)
    by_role v Role.Other d = λ e. absurd (false_true e)

    by_taken : (v : ℕ) (t : Taken) → behind_in image text c key v t ≡ true → key ≡ text_by text (role_in t)
    by_taken v (Some x) e = by_role v (role_of x.0) x.1 e
    by_taken v None e = absurd (false_true e)

    -- it fits
    leads_fits : (e : Mark) → leads_of image text c key e ≡ true → fits_of e ≡ true
    unfolding leads_of key_of role_at
    leads_fits e =
        cases (eqb c e.container)
        (λ h. rw h (λ g. fits_is e (eqb-true c e.container h) (by_taken e.value (record_at image e.key) g)))
        (λ h. rw h (λ g. absurd (false_true g)))

    -- and one that fits leads on where it stands
    fits_leads : (e : Mark) → Standing image text e → fits_of e ≡ true → leads_of image text c key e ≡ true
    unfolding leads_of key_of role_at
    fits_leads e s f =
        let m = fits_means e f in
        let p : ℕ = s.place in
        let n : ℕ = s.size in
        let i = le-leb (p + n) (length text) s.stands.inside in
        let k : key ≡ take n (drop p text) = rw (s.key, i) at m.1 in
        rw (eq-eqb c e.container m.0, s.key, eq-eqb e.value e.value refl, i, ← k, order_same key) s.value

    -- what is not past and does not fit comes before
    below : (e : Mark) → 0 < e.depth → past_of image text c key e ≡ false → fits_of e ≡ false → lower (of e) (short c key) ≡ true
    below e d p f =
        cases (lower (of e) (short c key)) (λ h. h)
        (λ h. absurd (false_true (sym f ∙ fits_eq e (sym (lower_same (of e) (short c key) h (sym (past_lower e d) ∙ p))))))

    -- past what is past
    past_on : (a b : Mark) → 0 < a.depth → 0 < b.depth → before image text b a ≡ false → past_of image text c key a ≡ true → past_of image text c key b ≡ true
    past_on a b d f h p =
        cases (past_of image text c key b) (λ g. g)
        (λ g. absurd (false_true
        (sym (lower_trans (of a) (of b) (short c key) (of_order b a h) (sym (past_lower b f) ∙ g)) ∙ (sym (past_lower a d) ∙ p))))

    -- a mark that fits is not past
    fits_low : (e : Mark) → 0 < e.depth → fits_of e ≡ true → past_of image text c key e ≡ false
    fits_low e d f = past_lower e d ∙ rw (fits_of_lem e f) (irrefl (short c key))
      where
        irrefl : (l : List ℕ) → lower l l ≡ false
        irrefl l = cases (lower l l) (λ t. lower_asym l l t) (λ t. t)

-- ---- a row in order, and only zeros behind it

beyond : (row : List Mark) (i : ℕ) → length row ≤ i → get_or row i nothing ≡ nothing
beyond [] i h = refl
beyond (x ∷ row) zero h = absurd (omega arith)
beyond (x ∷ row) (suc i) h = beyond row i (omega arith)

pub record Ordered (image text : List ℕ) (row es : List Mark) : Type 0 where
  pub sorted : (i j : ℕ) → i ≤ j → j < length row → before image text (get_or row j nothing) (get_or row i nothing) ≡ false
  pub deep : (i : ℕ) → i < length row → 0 < (get_or row i nothing).depth
  pub stand : (i : ℕ) → i < length row → Standing image text (get_or row i nothing)
  pub same : (i : ℕ) → get_or es i nothing ≡ get_or row i nothing
  pub longer : length row ≤ length es

module _ (image text : List ℕ) (c : ℕ) (key : List ℕ) (row es : List Mark) (o : Ordered image text row es) where
  abbrev at : ℕ → Mark
  at i = get_or row i nothing

  abbrev past : Mark → Bool
  past = past_of image text c key

  past_beyond : (i : ℕ) → length row ≤ i → past (at i) ≡ true
  past_beyond i h = past_zero image text c key (at i) (ap (λ (m : Mark). m.depth) (beyond row i h))

  -- what is not past is of the row
  inside_row : (i : ℕ) → past (at i) ≡ false → i < length row
  inside_row i p = cases (ltb i (length row)) (λ t. ltb-true i (length row) t) (λ t. absurd (false_true (sym p ∙ past_beyond i (ltb-false i (length row) t))))

  past_after : (i j : ℕ) → i ≤ j → past (at i) ≡ true → past (at j) ≡ true
  past_after i j h p =
      cases (ltb j (length row))
      (λ t.
      let l = ltb-true j (length row) t in
      past_on image text c key (at i) (at j) (o.deep i (omega arith)) (o.deep j l) (o.sorted i j h l) p)
      (λ t. past_beyond j (ltb-false j (length row) t))

  -- the marks from a number on are past, and those before it are not
  record Split (u : ℕ) : Type 0 where
    low : (i : ℕ) → i < u → past (at i) ≡ false
    high : (i : ℕ) → u ≤ i → past (at i) ≡ true

  split : (f lo hi : ℕ) → hi ≤ lo + f → lo ≤ hi → ((i : ℕ) → i < lo → past (at i) ≡ false) → ((i : ℕ) → hi ≤ i → past (at i) ≡ true)
      → Split (upper_of past es f lo hi)
  unfolding upper_of
  split zero lo hi g l below_lo from_hi = record { low = below_lo; high = λ i a. from_hi i (omega arith) }
  split (suc f) lo hi g l below_lo from_hi =
      cases (ltb lo hi)
      (λ t.
      let lt = ltb-true lo hi t in
      let m : ℕ = (lo + hi) / 2 in
      let q : get_or es m nothing ≡ at m = o.same m in
      cases (past (at m))
      (λ p. rw (t, q, p) (split f lo m (omega arith) (omega arith) below_lo (λ i a. past_after m i a p)))
      (λ p. rw (t, q, p) (split f (m + 1) hi (omega arith) (omega arith)
      (λ i a. cases (past (at i)) (λ z. absurd (false_true (sym p ∙ past_after i m (omega arith) z))) (λ z. z))
      from_hi)))
      (λ t. rw t (record { low = below_lo; high = λ i a. from_hi i (omega (arith, ltb-false lo hi t)) }))

  abbrev top : ℕ
  top = upper_of past es (length es) 0 (length es)

  whole : Split top
  whole = split (length es) 0 (length es) (omega arith) (omega arith) (λ i a. absurd (omega arith)) (λ i a. past_beyond i (omega (arith, o.longer)))

  -- the last mark that fits, whose value stands at v
  pub record Last (v : ℕ) : Type 0 where
    pub number : ℕ
    pub inside : number < length row
    pub value : (get_or row number nothing).value ≡ v
    pub fits : fits_of image text c key (get_or row number nothing) ≡ true
    pub last : (i : ℕ) → i < length row → fits_of image text c key (get_or row i nothing) ≡ true → i ≤ number

  positive : (n : ℕ) → (n ≡ 0 → ⊥) → 0 < n
  positive zero h = absurd (h refl)
  positive (suc n) h = omega arith

  fits_before : (i : ℕ) → i < length row → fits_of image text c key (at i) ≡ true → i < top
  fits_before i a f =
      cases (ltb i top) (λ t. ltb-true i top t)
      (λ t. absurd (false_true (sym (fits_low image text c key (at i) (o.deep i a) f) ∙ whole.high i (ltb-false i top t))))

  pub found : (v : ℕ) → last_of image text es c key ≡ Some v → Last v
  unfolding last_of
  found v =
      cases (eqb top 0) (λ h. rw h (λ g. let z : ◌≡◌ {A = ℕ} 0 1 = cc in absurd (omega arith)))
      (λ h.
      let some : 0 < top = positive top (eqb-false top 0 h) in
      let q : get_or es (top - 1) nothing ≡ at (top - 1) = o.same (top - 1) in
      cases (leads_of image text c key (at (top - 1)))
      (λ f. rw (h, q, f) (λ g.
      record {
        number = top - 1;
        inside = inside_row (top - 1) (whole.low (top - 1) (omega arith));
        value = cc;
        fits = leads_fits image text c key (at (top - 1)) f;
        last = λ i a b. omega (arith, fits_before i a b);
      }))
      (λ f. rw (h, q, f) (λ g. let z : ◌≡◌ {A = ℕ} 0 1 = cc in absurd (omega arith))))

  pub none : last_of image text es c key ≡ None → (i : ℕ) → i < length row → fits_of image text c key (get_or row i nothing) ≡ true → ⊥
  unfolding last_of
  none =
      cases (eqb top 0) (λ h g i b f. omega (arith, fits_before i b f, eqb-true top 0 h))
      (λ h.
      let some : 0 < top = positive top (eqb-false top 0 h) in
      let q : get_or es (top - 1) nothing ≡ at (top - 1) = o.same (top - 1) in
      let p = whole.low (top - 1) (omega arith) in
      let l = inside_row (top - 1) p in
      cases (leads_of image text c key (at (top - 1)))
      (λ f. rw (h, q, f) (λ g. let z : ◌≡◌ {A = ℕ} 0 1 = cc in absurd (omega arith)))
      (λ f g i b y.
      let x = fits_before i b y in
      let n : fits_of image text c key (at (top - 1)) ≡ false =
      cases (fits_of image text c key (at (top - 1)))
      (λ z. absurd (false_true (sym f ∙ fits_leads image text c key (at (top - 1)) (o.stand (top - 1) l) z))) (λ z. z) in
      let u = below image text c key (at (top - 1)) (o.deep (top - 1) l) p n in
      let w = of_order image text (at (top - 1)) (at i) (o.sorted i (top - 1) (omega arith) l) in
      false_true (sym (rw (fits_of_lem image text c key (at i) y) at w) ∙ u)))
