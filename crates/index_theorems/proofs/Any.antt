-- Looking up in an index from anywhere: whatever bytes it has, what a path finds stands in the image.
use Rattle.std.specs.Prelude.{◌+◌, ◌-◌, ◌/◌, ◌≤◌, ◌<◌, ◌≡◌, ◌∷◌, ◌⊎◌, Ok, Err, Some, None, Option}
use Rattle.wire.proofs.Kit.{ℕ, zero, suc, refl, sym, ap, ◌∙◌, List, [], Bool, true, false, inl, inr, ⊎_elim, arith, ltb}
use Rattle.wire.proofs.Kit.{eqb, length, get_or, replicate, eqb-true, lt-ltb, le-ltb, ltb-false, leb-true}
use Rattle.wire.specs.Choice.{pick}
use Rattle.wire.specs.Field.{to, bytes_at, u16_at, got, got_to, Parsed}
use Rattle.wire.specs.Number.{number}
use Rattle.wire.specs.Text.{inside_of, part_of}
use Rattle.wire.specs.declared.cursor.Cursor.{Cursor}
use Rattle.wire.proofs.Laws.{picked, false_true, u16_next}
use Rattle.image.specs.declared.record.Record.{Record}
use Rattle.image.specs.declared.record.Record.TheVariants as R
use Rattle.image.specs.Taking.{record_at, Taken, taken_to}
use Rattle.index.specs.declared.mark.Mark.{Mark}
use Rattle.std.specs.declared.cmp.Ordering.{Ordering}
use Rattle.std.specs.declared.cmp.Ordering.TheVariants.{Less, Equal, Greater}
use Rattle.index.specs.Mark.{nothing, mark_at, rows_at, rows}
use Rattle.index.specs.Keys.{role_of}
use Rattle.index.proofs.Ordering.{three}
use Rattle.index.specs.Order.{order_of}
use Rattle.index.proofs.Rows.{cases}
use Rattle.std.specs.Ordering.{is_eq}
use Rattle.std.specs.Bool.{then_some}
use Rattle.index.specs.Find.{is_value, opens_at, starts_at, past_of, behind_by, behind_in, leads_of, upper_of, last_of, step_of, thence, down_of, find_of}

-- ---- texts that are the same

order_same : (x y : List ℕ) → order_of x y ≡ Equal → x ≡ y
unfolding order_of
order_same [] [] e = refl
order_same [] (y ∷ ys) e = cc
order_same (x ∷ xs) [] e = cc
order_same (x ∷ xs) (y ∷ ys) e =
    ⊎_elim (λ l. let f = rw (lt-ltb x y l) at e in cc)
    (λ q. ⊎_elim
    (λ s.
    let f = rw (le-ltb x y (omega arith), le-ltb y x (omega arith)) at e in
    let r : xs ≡ ys = order_same xs ys f in
    cc)
    (λ l. let f = rw (le-ltb x y (omega arith), lt-ltb y x l) at e in cc) q)
    (three x y)

is_eq_lem : (o : Ordering) → is_eq o ≡ true → o ≡ Equal
is_eq_lem Less e = absurd (false_true e)
is_eq_lem Equal e = refl
is_eq_lem Greater e = absurd (false_true e)

-- both of two tests
both : (a b : Bool) → pick a b false ≡ true → (a ≡ true) × (b ≡ true)
both true b e = (refl, e)
both false b e = absurd (false_true e)

empty : (x : List ℕ) → length x ≡ 0 → x ≡ []
empty [] e = refl
empty (b ∷ x) e = absurd (omega arith)

-- ---- one step

-- A key's record stands in the image, its text, which is this key, in the lent one; and right behind the record, at this place, a value's.
pub record Stands (image text key : List ℕ) (v : ℕ) : Type 0 where
  pub at : ℕ
  pub place : ℕ
  pub size : ℕ
  pub found : record_at image at ≡ taken_to (R.Key place size) (to v)
  pub inside : inside_of text place size ≡ true
  pub named : part_of text place size ≡ key
  pub value : is_value image v ≡ true

module _ (image text : List ℕ) (container : ℕ) (key : List ℕ) where
  module _ (k v : ℕ) where
    by_record : (r : Record) (c : Cursor) → record_at image k ≡ taken_to r c → behind_by image text container key v (role_of r) c ≡ true → Stands image text key v
    by_record (R.Number n) c e h = absurd (false_true h)
    by_record (R.Boolean b) c e h = absurd (false_true h)
    by_record (R.Text p n) c e h = absurd (false_true h)
    by_record R.Object c e h = absurd (false_true h)
    by_record R.Null c e h = absurd (false_true h)
    by_record R.Undefined c e h = absurd (false_true h)
    by_record (R.Reference n) c e h = absurd (false_true h)
    by_record (R.EcmaArray n) c e h = absurd (false_true h)
    by_record R.ObjectEnd c e h = absurd (false_true h)
    by_record (R.StrictArray n) c e h = absurd (false_true h)
    by_record (R.Date n present zone) c e h = absurd (false_true h)
    by_record R.Unsupported c e h = absurd (false_true h)
    by_record (R.Xml p n) c e h = absurd (false_true h)
    by_record (R.TypedObject p n) c e h = absurd (false_true h)
    by_record (R.Key p n) c e h =
        let a = both (eqb c.at v) _ h in
        let b = both (inside_of text p n) _ a.1 in
        let d = both (is_eq (order_of key (part_of text p n))) (is_value image c.at) b.1 in
        let same : c.at ≡ v = eqb-true c.at v a.0 in
        record {
          at = k;
          place = p;
          size = n;
          found = e ∙ ap (λ (q : ℕ). taken_to (R.Key p n) (to q)) same;
          inside = b.0;
          named = sym (order_same key (part_of text p n) (is_eq_lem _ d.0));
          value = rw same at d.1;
        }
    by_record (R.Packet p m) c e h = absurd (false_true h)
    by_record (R.Header p n f) c e h = absurd (false_true h)
    by_record (R.Message p n q m) c e h = absurd (false_true h)
    by_record (R.Lso l p n) c e h = absurd (false_true h)

    by_taken : (t : Taken) → record_at image k ≡ t → behind_in image text container key v t ≡ true → Stands image text key v
    by_taken (Some x) e h = by_record x.0 x.1 e h
    by_taken None e h = absurd (false_true h)

  leads_stands : (m : Mark) → leads_of image text container key m ≡ true → Stands image text key m.value
  unfolding leads_of
  leads_stands m h = by_taken m.key m.value (record_at image m.key) refl (both (eqb container m.container) _ h).1

no_way : {P : Type 0} {v : ℕ} → None ≡ Some v → P
no_way e = let z : false ≡ true = cc in absurd (false_true z)

then_some_lem : (b : Bool) (n v : ℕ) → then_some b n ≡ Some v → (b ≡ true) × (n ≡ v)
then_some_lem true n v e = (refl, cc)
then_some_lem false n v e = no_way e

module _ (image text : List ℕ) (marks : List Mark) where
  last_stands : (container : ℕ) (key : List ℕ) (v : ℕ) → last_of image text marks container key ≡ Some v → Stands image text key v
  unfolding last_of
  last_stands container key v =
      let n : ℕ = upper_of (past_of image text container key) marks (length marks) 0 (length marks) in
      let m : Mark = get_or marks (n - 1) nothing in
      picked (λ w. w ≡ Some v → Stands image text key v) (eqb n 0) None (then_some (leads_of image text container key m) m.value)
      (λ _ e. no_way e)
      (λ _ e. let w = then_some_lem _ m.value v e in rw w.1 at (leads_stands image text container key m w.0))

  -- One step down stands in the image, whatever the marks are.
  pub step_stands : (container : ℕ) (key : List ℕ) (v : ℕ) → step_of image text marks container key ≡ Some v
      → (opens_at image container ≡ true) × Stands image text key v
  unfolding step_of
  step_stands container key v =
      picked (λ w. w ≡ Some v → (opens_at image container ≡ true) × Stands image text key v) (opens_at image container) (last_of image text marks container key) None
      (λ o e. (o, last_stands container key v e))
      (λ o e. no_way e)

-- ---- a path

-- The keys of a path from a place of it on, each behind its length in two bytes, to the path's end. Each stands before the place that it leads to, and each is
-- looked for in a container, at the place that the one before led to.
pub data Steps (image text path : List ℕ) : ℕ → ℕ → ℕ → Type 0 where
  done : {i place : ℕ} → i ≡ length path → Steps image text path i place place
  step : {i place n w v : ℕ} → u16_at path i ≡ got_to n (to (i + 2)) → i + 2 + n ≤ length path → opens_at image place ≡ true
      → Stands image text (part_of path (i + 2) n) w → Steps image text path (i + 2 + n) w v → Steps image text path i place v

-- the last key of a path, which ends where the path does, and stands before this place
pub record Ending (image text path : List ℕ) (v : ℕ) : Type 0 where
  pub start : ℕ
  pub size : ℕ
  pub says : u16_at path start ≡ got_to size (to (start + 2))
  pub whole : start + 2 + size ≡ length path
  pub container : ℕ
  pub opens : opens_at image container ≡ true
  pub stands : Stands image text (part_of path (start + 2) size) v

ending : {image text path : List ℕ} {i place v : ℕ} → Steps image text path i place v → ((i ≡ length path) × (v ≡ place)) ⊎ Ending image text path v
ending (Steps.done e) = inl (e, refl)
ending {image} {text} {path} {v = v} (Steps.step {i} {place} {n} {w} u b o s c) =
    ⊎_elim
    (λ a. inr (record {
      start = i;
      size = n;
      says = u;
      whole = a.0;
      container = place;
      opens = o;
      stands = rw (sym a.1) at s;
    }))
    (λ a. inr a)
    (ending c)

module _ (image text : List ℕ) (marks : List Mark) (path : List ℕ) where
  arrived : (i place v : ℕ) → i ≡ length path → place ≡ v → Steps image text path i place v
  arrived i place v e s = rw (sym s) (Steps.done e)

  down_steps : (fuel i place v : ℕ) → length path ≤ fuel + i → i ≤ length path → down_of image text marks path fuel i place ≡ Some v
      → Steps image text path i place v
  unfolding down_of
  down_steps zero i place v f l e = arrived i place v (omega arith) (cc)
  down_steps (suc fuel) i place v f l e =
      cases (ltb i (length path))
      (λ t. read (u16_at path i) refl (rw t at e) (down_steps fuel))
      (λ t. let g = rw t at e in arrived i place v (omega (arith, ltb-false i (length path) t)) (cc))
    where
      on : (n : ℕ) → u16_at path i ≡ got_to n (to (i + 2)) → i + 2 + n ≤ length path → (x : Option ℕ)
          → step_of image text marks place (part_of path (i + 2) n) ≡ x
          → thence image text marks x (down_of image text marks path fuel (i + 2 + n)) ≡ Some v
          → ((w : ℕ) → down_of image text marks path fuel (i + 2 + n) w ≡ Some v → Steps image text path (i + 2 + n) w v)
          → Steps image text path i place v
      on n u b (Some w) s e more =
          let z = step_stands image text marks place (part_of path (i + 2) n) w s in
          Steps.step u b z.0 z.1 (more w e)
      on n u b None s e more = no_way e

      read : (x : Parsed ℕ) → u16_at path i ≡ x
          → got (λ a p. None) x (λ n q.
          pick (inside_of path q n) (thence image text marks (step_of image text marks place (part_of path q n)) (down_of image text marks path fuel (q + n))) None)
          ≡ Some v
          → ((j w x : ℕ) → length path ≤ fuel + j → j ≤ length path → down_of image text marks path fuel j w ≡ Some x → Steps image text path j w x)
          → Steps image text path i place v
      read (Ok x) u e more =
          let q : x.1.at ≡ i + 2 = (u16_next path i x.0 x.1 u).next in
          picked (λ w. w ≡ Some v → Steps image text path i place v) (inside_of path (i + 2) x.0) _ None
          (λ b h.
          let l : i + 2 + x.0 ≤ length path = leb-true (i + 2 + x.0) (length path) b in
          on x.0 (u ∙ ap (λ (k : ℕ). got_to x.0 (to k)) q) l (step_of image text marks place (part_of path (i + 2) x.0)) refl h
          (λ w d. more (i + 2 + x.0) w v (omega arith) l d))
          (λ b h. no_way h) (rw q at e)
      read (Err r) u e more = no_way e

  -- What a path finds, whatever the marks are: the first record is one to start at, and the path is a row of keys, each of which stands in turn.
  pub find_steps : (v : ℕ) → find_of image text marks path ≡ Some v → (starts_at image ≡ true) × Steps image text path 0 0 v
  unfolding find_of
  find_steps v e =
      cases (starts_at image)
      (λ t. (t, down_steps (length path) 0 0 v (omega arith) (omega arith) (rw t at e)))
      (λ t. no_way (rw t at e))

  -- So the path is empty, and finds the first record, or its last key stands before what is found.
  pub find_stands : (v : ℕ) → find_of image text marks path ≡ Some v
      → (starts_at image ≡ true) × (((path ≡ []) × (v ≡ 0)) ⊎ Ending image text path v)
  find_stands v e =
      let s = find_steps v e in
      (s.0, ⊎_elim (λ a. inl (empty path (sym a.0), a.1)) (λ a. inr a) (ending s.1))

-- The empty path finds the first record.
pub find_empty : (image text : List ℕ) (marks : List Mark) → find_of image text marks [] ≡ pick (starts_at image) (Some 0) None
unfolding find_of down_of
find_empty image text marks = refl

-- ---- an index of zeros

-- no mark of them has a depth
pub record Blank (marks : List Mark) : Type 0 where
  pub depth : (i : ℕ) → (get_or marks i nothing).depth ≡ 0

module _ (image text : List ℕ) (marks : List Mark) (z : Blank marks) where
  upper_blank : (container : ℕ) (key : List ℕ) (fuel low high : ℕ) → upper_of (past_of image text container key) marks fuel low high ≡ low
  unfolding upper_of past_of
  upper_blank container key zero low high = refl
  upper_blank container key (suc fuel) low high =
      rw (z.depth ((low + high) / 2)) (picked (λ n. n ≡ low) (ltb low high) _ low (λ _. upper_blank container key fuel low ((low + high) / 2)) (λ _. refl))

  step_blank : (container : ℕ) (key : List ℕ) → step_of image text marks container key ≡ None
  unfolding step_of last_of
  step_blank container key =
      picked (λ w. w ≡ None) (opens_at image container) _ None (λ _. rw (upper_blank container key (length marks) 0 (length marks)) refl) (λ _. refl)

  -- the keys from a place on that is not the path's end
  down_blank : (path : List ℕ) (fuel i place : ℕ) → i < length path → down_of image text marks path (suc fuel) i place ≡ None
  unfolding down_of
  down_blank path fuel i place h = rw (lt-ltb i (length path) h) (go (u16_at path i))
    where
      go : (x : Parsed ℕ)
          → got (λ a p. None) x (λ n q.
          pick (inside_of path q n) (thence image text marks (step_of image text marks place (part_of path q n)) (down_of image text marks path fuel (q + n))) None)
          ≡ None
      go (Ok x) =
          picked (λ w. w ≡ None) (inside_of path x.1.at x.0) _ None
          (λ _. rw (step_blank place (part_of path x.1.at x.0)) refl)
          (λ _. refl)
      go (Err r) = refl

  -- Among marks that have no depth no path is found but the empty one.
  pub blank_index : (path : List ℕ) → 0 < length path → find_of image text marks path ≡ None
  unfolding find_of
  blank_index [] h = absurd (omega arith)
  blank_index (b ∷ path) h =
      picked (λ w. w ≡ None) (starts_at image) _ None (λ _. down_blank (b ∷ path) (length path) 0 0 h) (λ _. refl)

first_zero : (n at : ℕ) → number (bytes_at 1 (replicate n 0) at) ≡ 0
first_zero zero zero = refl
first_zero zero (suc at) = refl
first_zero (suc n) zero = refl
first_zero (suc n) (suc at) = first_zero n at

rows_blank : (k at n i : ℕ) → (get_or (rows_at k at (replicate n 0)) i nothing).depth ≡ 0
unfolding rows_at mark_at
rows_blank zero at n i = refl
rows_blank (suc k) at n zero = first_zero n at
rows_blank (suc k) at n (suc i) = rows_blank k (at + 13) n i

-- In an index of zeros alone no path is found but the empty one.
pub zero_index : (image text index path : List ℕ) → index ≡ replicate (length index) 0 → 0 < length path
    → find_of image text (rows (length index / 13) index) path ≡ None
zero_index image text index path e h =
    ap (λ (s : List ℕ). find_of image text (rows (length index / 13) s) path) e
    ∙ blank_index image text _ (record { depth = rows_blank (length index / 13) 0 (length index) }) path h
