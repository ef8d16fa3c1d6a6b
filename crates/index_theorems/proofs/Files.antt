-- The same for files: a file's elements are the pairs of its first record.
use Rattle.std.specs.Prelude.{◌+◌, ◌*◌, ◌/◌, ◌≤◌, ◌<◌, ◌≡◌, ◌∷◌, ◌++◌, ◌⊎◌, Some}
use Rattle.wire.proofs.Kit.{ℕ, zero, suc, refl, sym, ap, ◌∙◌, List, [], append-nil, true, false, inl, inr, ⊎_elim}
use Rattle.wire.proofs.Kit.{arith, leb, length, le-leb, lt-leb, leb-true, leb-false, eq-eqb}
use Rattle.wire.specs.Field.{to}
use Rattle.wire.specs.Limit as limit
use Rattle.wire.proofs.Stands.{Here, cut, skip}
use Rattle.image.specs.declared.record.Record.{Record}
use Rattle.image.specs.declared.record.Record.TheVariants as R
use Rattle.image.specs.Record.{size}
use Rattle.image.specs.Out.{Out, ◌>>=◌, bytes as bytes_out}
use Rattle.image.proofs.Laws.{size_some}
use Rattle.amf0.specs.Shown.{Word, laid, Right}
use Rattle.amf0_theorems.proofs.Puts.{Puts, then, laid_append, laid_length, laid_size, right_left, right_right, first, others}
use Rattle.lso.specs.File.{Lso, deepest}
use Rattle.lso.specs.File as File
use Rattle.lso.specs.Written.{Spells, Writable}
use Rattle.index.specs.declared.mark.Mark.{Mark}
use Rattle.index.specs.declared.walk.Rest.TheVariants.{Body}
use Rattle.index.specs.declared.walk.Coming.TheVariants as Coming
use Rattle.index.specs.Mark.{mark, mark_bytes, flat, rows, Small}
use Rattle.index.specs.Keys.{begun_to, role_at, pair_at, turn_of, rest, value}
use Rattle.index.specs.Find.{opens_at, starts_at, step_of, thence, find_of}
use Rattle.index.specs.Index.{root_of, keys_of, Indexed, unindexed, index_of, Holds}
use Rattle.index_theorems.specs.Way.{marks, marks_of, shorts, Short, Perhaps, last_element, onward, way, place_of, way_of}
use Rattle.index_theorems.specs.Stand.{In, Standing}
use Rattle.index.proofs.Rows.{cases}
use Rattle.index_theorems.proofs.Latest.{in_both, Kept}
use Rattle.index_theorems.proofs.Marks.{stands, walks, both}
use Rattle.index_theorems.proofs.Stand.{key_there, mark_stands, value_there, stand}
use Rattle.index_theorems.proofs.Ways.{near_value, Outcome, pair, Stepped, finish, looked, leads}
use Rattle.index_theorems.proofs.Held.{flat_length, rows_flat, held}
use Rattle.index_theorems.proofs.Whole.{puts_bytes, puts_unless, Bounded, wider, bounded}
use Rattle.index_theorems.proofs.Paths.{found_looked}

-- ---- the walk

module _ (s image : List ℕ) where
  element_first : {at : ℕ} (p n : ℕ) (rs : List Record) (z : List ℕ) → Here image at (laid (R.Key p n ∷ rs)) z → Right s (R.Key p n ∷ rs)
      → pair_at image s Body false at ≡ Some (Coming.Key (to (at + size (R.Key p n))) Body)
  unfolding pair_at
  element_first p n rs z h g = rw (first s image (R.Key p n) rs z h g.0, stands s p n g.1.0)

  key_turn : (v : ℕ → Out) (fuel at q : ℕ) {x : List ℕ} {n : ℕ} → at < length image → pair_at image s Body false at ≡ Some (Coming.Key (to q) Body)
      → Puts ⊥ (v q >>= rest v image s 0 1 fuel Body) x n → Puts ⊥ (rest v image s 0 1 (suc fuel) Body at) (mark_bytes (mark 1 0 at q) ++ x) n
  unfolding rest turn_of
  key_turn v fuel at q l e p = rw (lt-leb (length image) at l, e) (Puts.more p)

  end_turn : (v : ℕ → Out) (fuel at : ℕ) → length image ≤ at → Puts ⊥ (rest v image s 0 1 (suc fuel) Body at) [] at
  unfolding rest turn_of
  end_turn v fuel at l = rw (le-leb (length image) at l) Puts.done

  pub walks_body : {b : File.Body} {rs : List Record} (c : Spells s b rs) → Right s rs → (at fuel : ℕ) → Here image at (laid rs) []
      → at + length (laid rs) ≡ length image → deepest b ≤ 32 → length (laid rs) < fuel
      → Puts ⊥ (rest (value 32 image s) image s 0 1 fuel Body at) (flat (marks_of c at)) (length image)
  unfolding marks_of
  walks_body c g at zero h m d f = absurd (omega arith)
  walks_body Spells.none g at (suc fuel) h m d f = let e : length image ≡ at = omega arith in rw e (end_turn (value 32 image s) fuel at (omega arith))
  walks_body (Spells.element {p} {n} {k} {v} {b} {rs} {qs} e c x) g at (suc fuel) h m d f =
      let r : Record = R.Key p n in
      let l = laid_length rs qs in
      let o = laid_size r (rs ++ qs) in
      let w = size_some r in
      let q : ℕ = at + size r in
      let j : Here image q (laid rs ++ laid qs) [] = rw (laid_append rs qs) at (others s image r (rs ++ qs) [] h) in
      key_turn (value 32 image s) fuel at q (omega arith) (element_first p n (rs ++ qs) [] h g)
      (both s image (marks c 0 1 q) (marks_of x (q + length (laid rs))) (rest (value 32 image s) image s 0 1 fuel Body)
      (walks s image {D = ⊥} c (right_left s rs qs g.2) (laid qs ++ []) 0 q (q + length (laid rs)) 32 fuel (cut (laid rs) (laid qs) j)
      refl (omega arith) (λ i. omega arith) (omega arith))
      (walks_body x (right_right s rs qs g.2) (q + length (laid rs)) fuel (skip (laid rs) (laid qs) j) (omega arith) (omega arith) (omega arith)))

-- ---- where the containers stand

near_of : {s : List ℕ} {b : File.Body} {rs : List Record} (c : Spells s b rs) (at n : ℕ) → n ≡ at + length (laid rs)
    → (e : Mark) → In e (marks_of c at) → (e.container ≡ 0) ⊎ ((at ≤ e.container) × (e.container < n))
unfolding marks_of
near_of Spells.none at n m e i = absurd i
near_of (Spells.element {p} {n = h} {rs = rs} {qs} q c x) at n m e i =
    let r : Record = R.Key p h in
    let l = laid_size r (rs ++ qs) in
    let w = laid_length rs qs in
    let y : ℕ = at + size r in
    ⊎_elim (λ u. inl (ap (λ (g : Mark). g.container) u))
    (λ j. ⊎_elim (λ u. let v = near_value c 0 1 y e u in inr (omega arith, omega arith))
    (λ u. ⊎_elim (λ v. inl v) (λ v. inr (omega arith, omega arith)) (near_of x (y + length (laid rs)) n (omega arith) e u))
    (in_both e (marks c 0 1 y) (marks_of x (y + length (laid rs))) j)) i

bounded_of : {s : List ℕ} {b : File.Body} {rs : List Record} (c : Spells s b rs) (at n : ℕ) → at + length (laid rs) ≤ n
    → (e : Mark) → In e (marks_of c at) → Bounded e (1 + deepest b) n
unfolding marks_of
bounded_of Spells.none at n m e i = absurd i
bounded_of (Spells.element {p} {n = h} {rs = rs} {qs} q c x) at n m e i =
    let r : Record = R.Key p h in
    let l = laid_size r (rs ++ qs) in
    let w = laid_length rs qs in
    let y : ℕ = at + size r in
    ⊎_elim
    (λ u.
    let a : e.depth ≡ 1 = ap (λ (x : Mark). x.depth) u in
    let b : e.container ≡ 0 = ap (λ (x : Mark). x.container) u in
    let f : e.key ≡ at = ap (λ (x : Mark). x.key) u in
    let g : e.value ≡ y = ap (λ (x : Mark). x.value) u in
    record { some = omega arith; depth = omega arith; container = omega arith; key = omega arith; value = omega arith })
    (λ j. ⊎_elim (λ u. wider (bounded c 0 1 y n (omega arith) (omega arith) (omega arith) e u) (omega arith))
    (λ u. wider (bounded_of x (y + length (laid rs)) n (omega arith) e u) (omega arith))
    (in_both e (marks c 0 1 y) (marks_of x (y + length (laid rs))) j)) i

-- ---- what stands there

module _ (s image : List ℕ) where
  stand_of : {b : File.Body} {rs : List Record} (c : Spells s b rs) → Right s rs → (z : List ℕ) (at : ℕ) → Here image at (laid rs) z
      → (m : Mark) → In m (marks_of c at) → Standing image s m
  unfolding marks_of
  stand_of Spells.none g z at h m i = absurd i
  stand_of (Spells.element {p} {n} {k} {v} {b} {rs} {qs} e c x) g z at h m i =
      let r : Record = R.Key p n in
      let q : ℕ = at + size r in
      let j : Here image q (laid rs ++ laid qs) z = rw (laid_append rs qs) at (others s image r (rs ++ qs) z h) in
      let gc = right_left s rs qs g.2 in
      let jc = cut (laid rs) (laid qs) j in
      ⊎_elim
      (λ u.
      mark_stands s image at r (rs ++ qs) z k h g (ap Word.name e) m (ap (λ (x : Mark). x.key) u) (ap (λ (x : Mark). x.value) u)
      (value_there s image c gc (laid qs ++ z) q jc))
      (λ o. ⊎_elim
      (λ u. stand s image c gc (laid qs ++ z) 0 1 q jc m u)
      (λ u. stand_of x (right_right s rs qs g.2) z (q + length (laid rs)) (skip (laid rs) (laid qs) j) m u)
      (in_both m (marks c 0 1 q) (marks_of x (q + length (laid rs))) o)) i

-- ---- a step into the file's body, and a path

module _ (s image : List ℕ) where
  outcome_of : (key : List ℕ) {b : File.Body} {rs : List Record} (c : Spells s b rs) → Right s rs → (z : List ℕ) (at high : ℕ) → Here image at (laid rs) z → 0 < at
      → at + length (laid rs) ≤ high → Outcome s image 0 key (marks_of c at) 1 at high (last_element s c key at)
  unfolding marks_of last_element
  outcome_of key Spells.none g z at high h p m = λ e j f k. j
  outcome_of key (Spells.element {p = pl} {n} {k} {v} {b} {rs} {qs} q c x) g z at high h p m =
      let r : Record = R.Key pl n in
      let o = laid_size r (rs ++ qs) in
      let w = laid_length rs qs in
      let y : ℕ = at + size r in
      let mid : ℕ = y + length (laid rs) in
      let j : Here image y (laid rs ++ laid qs) z = rw (laid_append rs qs) at (others s image r (rs ++ qs) z h) in
      pair s image 0 key c k 1 at (size r) high (marks_of x mid) p (size_some r) (key_there s image at r (rs ++ qs) z k h g (ap Word.name q))
      (λ e i. ⊎_elim (λ u. inl u) (λ u. inr u.0) (near_of x mid (mid + length (laid qs)) refl e i))
      (record { right = right_left s rs qs g.2; behind = laid qs ++ z; here = cut (laid rs) (laid qs) j; upto = omega arith })
      (last_element s x key mid) (outcome_of key x (right_right s rs qs g.2) z mid high (skip (laid rs) (laid qs) j) (omega arith) (omega arith))

  module _ {b : File.Body} {rs : List Record} (c : Spells s b rs) (g : Right s rs) (z : List ℕ) (at : ℕ) (h : Here image at (laid rs) z) (p : 0 < at)
      (m : at + length (laid rs) ≡ length image) (es : List Mark) (kept : Kept image s (marks_of c at) es) (opens : opens_at image 0 ≡ true) where
    abbrev all : List Mark
    all = marks_of c at

    file_leads : (path : List (List ℕ)) → looked s image es 0 path ≡ way_of s c at path
    unfolding looked way_of
    file_leads [] = refl
    file_leads (key ∷ path) =
        go (last_element s c key at)
        (finish s image all es kept key 0 (length image) 1 all (λ e i _ _. i) (λ e i. i) (omega arith) opens at (omega arith) (last_element s c key at)
        (outcome_of key c g z at (0 + length image) h p (omega arith)))
      where
        go : (o : Perhaps s) → Stepped s image all es kept o (step_of image s es 0 key)
            → thence image s es (step_of image s es 0 key) (λ q. looked s image es q path) ≡ place_of s (onward s o λ y. way s y path)
        go Perhaps.nowhere f = rw f
        go (Perhaps.found y) f = rw f.is (leads s image all es kept path y f.owned)

-- ---- the public calls

module _ (image s : List ℕ) {file : Lso} (w : Writable image s file) where
  -- the record of its length and name
  abbrev pub head : Record
  head = R.Lso file.stored w.images.place (length file.name)

  abbrev pub file_keys : List Mark
  file_keys = marks_of w.images.spells (size head)

  begins : Here image 0 (laid (head ∷ w.images.records)) []
  begins = record { same = w.images.lies ∙ sym (append-nil (laid (head ∷ w.images.records))) }

  body_here : Here image (size head) (laid w.images.records) []
  body_here = let z : 0 + size head ≡ size head = omega arith in rw z at (skip_head)
    where
      skip_head : Here image (0 + size head) (laid w.images.records) []
      skip_head = others s image head w.images.records [] begins

  whole_size : size head + length (laid w.images.records) ≡ length image
  whole_size = sym (ap length w.images.lies ∙ laid_size head w.images.records)

  root_body : root_of image s ≡ begun_to (to (0 + size head)) Body
  unfolding root_of
  root_body = rw (first s image head w.images.records [] begins w.images.fits, stands s w.images.place (length file.name) w.images.stands)

  opens : opens_at image 0 ≡ true
  unfolding opens_at role_at
  opens = rw (first s image head w.images.records [] begins w.images.fits, eq-eqb 0 0 refl)

  starts : starts_at image ≡ true
  unfolding starts_at role_at
  starts = rw (first s image head w.images.records [] begins w.images.fits)

  file_keys_are : Puts ⊥ (keys_of image s) (flat file_keys) (length image)
  unfolding keys_of
  file_keys_are =
      let z : 0 + size head ≡ size head = omega arith in
      let q = walks_body s image w.images.spells w.images.right (size head) (suc (length image)) body_here whole_size w.deep (omega (arith, whole_size)) in
      rw (root_body, z, ← append-nil (flat file_keys)) (then (λ n. _) q (rw (le-leb (length image) (length image) (omega arith)) Puts.done))

  limits_of : (m : Mark) → In m file_keys → Bounded m (1 + deepest file.body) (length image)
  limits_of m i = bounded_of w.images.spells (size head) (length image) (omega (arith, whole_size)) m i

  small_of : (m : Mark) → In m file_keys → Small m
  small_of m i =
      let b = limits_of m i in
      record {
        depth = omega (arith, b.depth, w.deep);
        container = omega (arith, b.container, w.image_size);
        key = omega (arith, b.key, w.image_size);
        value = omega (arith, b.value, w.image_size);
      }

  -- each is of a whole key record, right behind which its value's record stands
  pub file_marks_stand : (m : Mark) → In m file_keys → Standing image s m
  file_marks_stand m i = stand_of s image w.images.spells w.images.right [] (size head) body_here m i

  -- where there is room, the index is of the file's keys
  pub file_index_is : (room : ℕ) → 13 * length file_keys ≤ room → index_of image s room ≡ record { answer = 0; keys = file_keys }
  file_index_is room h =
      let b : bytes_out (keys_of image s) ≡ flat file_keys = puts_bytes file_keys_are in
      let n = flat_length file_keys in
      rw (le-leb (length s) limit.bytes w.text_size, le-leb (length image) limit.image w.image_size, b, le-leb (length (flat file_keys)) room (omega arith))
      (puts_unless _ file_keys_are ∙ rw (rows_flat file_keys small_of))

  -- where there is not, it is refused with 4
  pub file_index_not : (room : ℕ) → room < 13 * length file_keys → index_of image s room ≡ unindexed 4
  file_index_not room h =
      let b : bytes_out (keys_of image s) ≡ flat file_keys = puts_bytes file_keys_are in
      let n = flat_length file_keys in
      rw (le-leb (length s) limit.bytes w.text_size, le-leb (length image) limit.image w.image_size, b, lt-leb (length (flat file_keys)) room (omega arith))
      (puts_unless _ file_keys_are)

  -- the marks of the buffer that it is left in, to look up in
  pub file_index_kept : (index : List ℕ) → Holds image s file_keys index → 13 * length file_keys ≤ length index
      → Kept image s file_keys (rows (length index / 13) index)
  file_index_kept index h room = held image s file_keys index h room small_of (λ m i. (limits_of m i).some) file_marks_stand

  -- The whole promise, for files.
  pub file_found_exactly : (index : List ℕ) → Holds image s file_keys index → 13 * length file_keys ≤ length index → (ks : List (List ℕ)) → Short ks
      → find_of image s (rows (length index / 13) index) (shorts ks) ≡ way_of s w.images.spells (size head) ks
  file_found_exactly index h room ks b =
      found_looked s image (rows (length index / 13) index) ks b starts
      ∙ file_leads s image w.images.spells w.images.right [] (size head) body_here (size_some head) whole_size (rows (length index / 13) index)
      (file_index_kept index h room) opens ks

  -- the same, over what the calls promise
  pub file_found_made : (index : List ℕ) → (index_of image s (length index)).answer ≡ 0 → Holds image s (index_of image s (length index)).keys index
      → (ks : List (List ℕ)) → Short ks → find_of image s (rows (length index / 13) index) (shorts ks) ≡ way_of s w.images.spells (size head) ks
  file_found_made index a h ks b =
      let n : ℕ = 13 * length file_keys in
      cases (leb n (length index))
      (λ t. let r = leb-true n (length index) t in file_found_exactly index (rw (file_index_is (length index) r) at h) r ks b)
      (λ t.
      let z : 4 ≡ 0 = sym (ap (λ (x : Indexed). x.answer) (file_index_not (length index) (leb-false n (length index) t))) ∙ a in
      absurd (omega arith))
