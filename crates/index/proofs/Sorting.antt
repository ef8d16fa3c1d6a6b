-- Sorting by exchanges, and by putting marks back. A row of the same marks in order is one alone: it is what putting each into its place gives (`sort_of`), which is here
-- only to be compared with.
use Rattle.std.specs.Prelude.{◌+◌, ◌-◌, ◌*◌, ◌≤◌, ◌<◌, ◌≡◌, ◌∷◌}
use Rattle.wire.proofs.Kit.{ℕ, zero, suc, refl, sym, ap, ◌∙◌, List, [], Bool, true, false, ⊎_elim, suc-add, arith, length}
use Rattle.wire.proofs.Kit.{get_or, set, length-set, sets, length-sets, set-set}
use lib.Seq.{get_or-set_same, get_or-set_other, set-get_or}
use Rattle.wire.specs.Choice.{pick}
use Rattle.wire.proofs.Laws.{false_true}
use Rattle.index.specs.declared.mark.Mark.{Mark}
use Rattle.index.proofs.Rows.{cases, decide, length_rows_at, rows_get, rows_set, drop_past}
use Rattle.index.specs.Mark.{mark_at, mark_bytes, Small, rows, nothing}
use Rattle.index.specs.Sort.{Shuffled, Rising, Sorted}
use Rattle.index.specs.Code.{Mixed}

-- a total order, in which two that come in neither order are the same
pub record Total (before : Mark → Mark → Bool) : Type 0 where
  pub asym : (a b : Mark) → before a b ≡ true → before b a ≡ false
  pub same : (a b : Mark) → before a b ≡ false → before b a ≡ false → a ≡ b
  pub trans : (a b c : Mark) → before b a ≡ false → before c b ≡ false → before c a ≡ false

module _ (before : Mark → Mark → Bool) where
  -- an element put before the first that does not come before it
  unfoldable pub insert : Mark → List Mark → List Mark
  insert x [] = x ∷ []
  insert x (y ∷ ys) = pick (before y x) (y ∷ insert x ys) (x ∷ y ∷ ys)

  unfoldable pub sort_of : List Mark → List Mark
  sort_of [] = []
  sort_of (x ∷ xs) = insert x (sort_of xs)

pub shuffled_same : (xs : List Mark) → Shuffled xs xs
shuffled_same [] = Shuffled.none
shuffled_same (x ∷ xs) = Shuffled.keep (shuffled_same xs)

pub shuffled_length : {xs ys : List Mark} → Shuffled xs ys → length xs ≡ length ys
shuffled_length Shuffled.none = refl
shuffled_length (Shuffled.keep s) = ap suc (shuffled_length s)
shuffled_length Shuffled.swap = refl
shuffled_length (Shuffled.then s t) = shuffled_length s ∙ shuffled_length t

-- a mark put in another's place, and that one before them
fetched : (l : List Mark) (j : ℕ) (x : Mark) → j < length l → Shuffled (x ∷ l) (get_or l j nothing ∷ set l j x)
fetched [] j x h = absurd (omega arith)
fetched (y ∷ ys) zero x h = Shuffled.swap
fetched (y ∷ ys) (suc j) x h = Shuffled.then Shuffled.swap (Shuffled.then (Shuffled.keep (fetched ys j x (omega arith))) Shuffled.swap)

-- two marks exchanged
pub exchanged : (l : List Mark) (i j : ℕ) → i < j → j < length l → Shuffled l (set (set l j (get_or l i nothing)) i (get_or l j nothing))
exchanged [] i j h g = absurd (omega arith)
exchanged (z ∷ zs) i zero h g = absurd (omega arith)
exchanged (z ∷ zs) zero (suc j) h g = fetched zs j z (omega arith)
exchanged (z ∷ zs) (suc i) (suc j) h g = Shuffled.keep (exchanged zs i j (omega arith) (omega arith))

-- ---- bytes that are mixed

pub mixed_same : (n : ℕ) (s : List ℕ) → Mixed n s s
mixed_same n s = record { same = shuffled_same (rows n s); behind = refl }

pub mixed_then : {n : ℕ} {s t u : List ℕ} → Mixed n s t → Mixed n t u → Mixed n s u
mixed_then a b = record { same = Shuffled.then a.same b.same; behind = b.behind ∙ a.behind }

pub mixed_exchange : (n : ℕ) (s : List ℕ) (i j : ℕ) (a b : Mark) → i < j → j < n → 13 * n ≤ length s → a ≡ mark_at s (13 * i) → b ≡ mark_at s (13 * j) → Small a → Small b
    → Mixed n s (sets (sets s (13 * j) (mark_bytes a)) (13 * i) (mark_bytes b))
mixed_exchange n s i j a b h g l at_a at_b small_a small_b =
    let t : List ℕ = sets s (13 * j) (mark_bytes a) in
    let m : length t ≡ length s = length-sets s (13 * j) (mark_bytes a) in
    let x : a ≡ get_or (rows n s) i nothing = at_a ∙ sym (rows_get n s i (omega arith)) in
    let y : b ≡ get_or (rows n s) j nothing = at_b ∙ sym (rows_get n s j g) in
    record {
      same =
          rw (rows_set n t i b (omega arith) (omega arith) small_b, rows_set n s j a g l small_a, x, y)
          (exchanged (rows n s) i j h (rw (length_rows_at n 0 s) g));
      behind =
          drop_past t (13 * i) (13 * n) (mark_bytes b) (omega arith) (omega arith) ∙ drop_past s (13 * j) (13 * n) (mark_bytes a) (omega arith) (omega arith);
    }

module _ (before : Mark → Mark → Bool) (total : Total before) where
  -- from a ≤ b < c
  pub less : (a b c : Mark) → before b a ≡ false → before b c ≡ true → before a c ≡ true
  less a b c h g = cases (before a c) (λ e. e) (λ e. absurd (false_true (sym (total.trans c a b e h) ∙ g)))

  two : (a b : Mark) (r : List Mark) → pick (before b a) (b ∷ a ∷ r) (a ∷ b ∷ r) ≡ pick (before a b) (a ∷ b ∷ r) (b ∷ a ∷ r)
  two a b r =
      cases (before b a) (λ h. rw (h, total.asym b a h))
      (λ h. cases (before a b) (λ g. rw (h, g)) (λ g. rw (h, g, total.same a b g h)))

  insert_comm : (a b : Mark) (l : List Mark) → insert before a (insert before b l) ≡ insert before b (insert before a l)
  unfolding insert
  insert_comm a b [] = two a b []
  insert_comm a b (y ∷ ys) =
      cases (before y a)
      (λ h. cases (before y b)
      (λ g. simp (h, g) (ap (λ (l : List Mark). y ∷ l) (insert_comm a b ys)))
      (λ g. simp (h, g, less b y a g h)))
      (λ h. cases (before y b)
      (λ g. simp (h, g, less a y b h g))
      (λ g. simp (h, g) (two a b (y ∷ ys))))

  in_order : (l : List Mark) → Rising before (length l) l → sort_of before l ≡ l
  unfolding sort_of insert
  in_order [] h = refl
  in_order (x ∷ []) h = refl
  in_order (x ∷ y ∷ ys) h =
      ap (insert before x) (in_order (y ∷ ys) (λ k g. rw (suc-add k 1) at (h (suc k) (omega arith)))) ∙ rw (h 0 (omega arith))

  -- the same marks sort alike
  alike : {xs ys : List Mark} → Shuffled xs ys → sort_of before xs ≡ sort_of before ys
  unfolding sort_of
  alike Shuffled.none = refl
  alike (Shuffled.keep {m} s) = ap (insert before m) (alike s)
  alike (Shuffled.swap {m} {n} {xs}) = insert_comm m n (sort_of before xs)
  alike (Shuffled.then s t) = alike s ∙ alike t

  -- a row of the same marks in order is one alone
  pub sorted_is : (keys row : List Mark) → Sorted before keys row → row ≡ sort_of before keys
  sorted_is keys row s = sym (alike s.same ∙ in_order row s.rising)

  -- ---- a mark on its way back

  -- Number i is held, and j is where it would go. Those up to i are in order, but for what stands before j.
  pub record Sinking (i j : ℕ) (held : Mark) (xs₀ xs : List Mark) : Type 0 where
    pub same : Shuffled xs₀ (set xs j held)
    pub low : j ≤ i
    pub rising : (k : ℕ) → k + 1 ≤ i → (k + 1 ≡ j → ⊥) → before (get_or (set xs j held) (k + 1) nothing) (get_or (set xs j held) k nothing) ≡ false
    pub over : (k : ℕ) → k + 1 ≡ j → j + 1 ≤ i → before (get_or (set xs j held) (j + 1) nothing) (get_or (set xs j held) k nothing) ≡ false

  module _ (i : ℕ) where
    pub sink_starts : (xs : List Mark) → Rising before i xs → Sinking i i (get_or xs i nothing) xs xs
    sink_starts xs h = record {
      same = rw (set-get_or xs i nothing) (shuffled_same xs);
      low = omega arith;
      rising = λ k g ne. rw (set-get_or xs i nothing) (h k (omega arith));
      over = λ k e g. absurd (omega arith);
    }

    module _ (j : ℕ) (held : Mark) (xs₀ xs : List Mark) (s : Sinking i j held xs₀ xs) (inside : j < length xs) where
      -- it goes further
      pub sink_goes : 0 < j → before held (get_or xs (j - 1) nothing) ≡ true → Sinking i (j - 1) held xs₀ (set xs j (get_or xs (j - 1) nothing))
      sink_goes g t =
          let p : ℕ = j - 1 in
          let x : Mark = get_or xs p nothing in
          let ys : List Mark = set (set xs j x) p held in
          let np : p ≡ j → ⊥ = λ e. omega arith in
          let nj : j ≡ p → ⊥ = λ e. omega arith in
          let lp : p < length (set xs j x) = rw (length-set xs j x) (omega arith) in
          let at_p : get_or ys p nothing ≡ held = get_or-set_same (set xs j x) p held nothing lp in
          let at_j : get_or ys j nothing ≡ x = get_or-set_other (set xs j x) p j held nothing nj ∙ get_or-set_same xs j x nothing inside in
          let at_m : (m : ℕ) → (m ≡ p → ⊥) → (m ≡ j → ⊥) → get_or ys m nothing ≡ get_or (set xs j held) m nothing =
          λ m a b. get_or-set_other (set xs j x) p m held nothing a ∙ get_or-set_other xs j m x nothing b ∙ sym (get_or-set_other xs j m held nothing b) in
          let was_p : get_or (set xs j held) p nothing ≡ x = get_or-set_other xs j p held nothing np in
          let lj : j < length (set xs j held) = rw (length-set xs j held) inside in
          record {
            same = Shuffled.then s.same (rw (was_p, get_or-set_same xs j held nothing inside, set-set xs j held x) at (exchanged (set xs j held) p j (omega arith) lj));
            low = omega (arith, s.low);
            rising = λ k l ne.
                ⊎_elim
                (λ (e : k + 1 ≡ j).
                let f : k ≡ p = omega arith in
                rw (e, at_j, f, at_p) (total.asym held x t))
                (λ (e : k + 1 ≡ j → ⊥).
                ⊎_elim
                (λ (f : k ≡ j).
                rw (f, at_j, at_m (j + 1) (λ q. omega arith) (λ q. omega arith), ← was_p) (s.over p (omega arith) (rw f at l)))
                (λ (f : k ≡ j → ⊥).
                rw (at_m (k + 1) ne e, at_m k (λ q. e (omega arith)) f) (s.rising k l e))
                (decide k j))
                (decide (k + 1) j);
            over = λ k e l.
                let f : p + 1 ≡ j = omega arith in
                rw (f, at_j, at_m k (λ q. omega arith) (λ q. omega arith), ← was_p, ← e) (s.rising k (omega (arith, s.low)) (λ q. omega arith));
          }

      -- it stays
      pub sink_stays : (0 < j → before held (get_or xs (j - 1) nothing) ≡ false) → Rising before (i + 1) (set xs j held)
      sink_stays t k l =
          ⊎_elim
          (λ (e : k + 1 ≡ j).
          let f : k ≡ j - 1 = omega arith in
          rw (e, get_or-set_same xs j held nothing inside, get_or-set_other xs j k held nothing (λ q. omega arith), f) (t (omega arith)))
          (λ (e : k + 1 ≡ j → ⊥). s.rising k (omega arith) e)
          (decide (k + 1) j)
