-- A path is looked up key by key, and only one that is keys behind their lengths, in a row, is found.
use Rattle.std.specs.Prelude.{◌+◌, ◌-◌, ◌*◌, ◌/◌, ◌≤◌, ◌≡◌, ◌∷◌, ◌++◌, Some, None, Option}
use Rattle.wire.proofs.Kit.{ℕ, zero, suc, refl, sym, ap, ◌∙◌, List, [], append-nil, true, arith, ltb, leb, length}
use Rattle.wire.proofs.Kit.{drop, length-append, length-drop, drop_of_length-le, take_at, drop_at, drop-drop, le-leb, leb-true, leb-false, ltb-false}
use Rattle.wire.specs.Number.{digits, Bytes}
use Rattle.wire.specs.Field.{to, bytes_at, u16_at, got_to}
use Rattle.wire.specs.Text.{inside_of, part_of}
use Rattle.wire.proofs.Stands.{Here, cut, after, u16_at_lem, Stood, end16, length_bytes, stood}
use Rattle.amf0.specs.Standard.{Sort, Tree}
use Rattle.amf0.specs.Written.{Writable}
use Rattle.index.specs.declared.mark.Mark.{Mark}
use Rattle.index.specs.Mark.{rows}
use Rattle.index.specs.Find.{starts_at, step_of, thence, down_of, find_of}
use Rattle.index.specs.Index.{Indexed, index_of, Holds}
use Rattle.index_theorems.specs.Way.{shorts, Short, Keys, way, place_of}
use Rattle.index.proofs.Rows.{cases}
use Rattle.index.proofs.Finding.{down_done, down_goes}
use Rattle.index_theorems.proofs.Stand.{starts_there}
use Rattle.index_theorems.proofs.Ways.{looked, path_leads}
use Rattle.index_theorems.proofs.Whole.{keys, fill, index_is, index_not, index_kept}

module _ (s image : List ℕ) (es : List Mark) (path : List ℕ) where
  thence_same : (f : Option ℕ) (k l : ℕ → (Option ℕ)) → ((p : ℕ) → k p ≡ l p) → thence image s es f k ≡ thence image s es f l
  thence_same (Some p) k l h = h p
  thence_same None k l h = refl

  down_looked : (ks : List (List ℕ)) → Short ks → (i fuel place : ℕ) → drop i path ≡ shorts ks → i ≤ length path → length (shorts ks) ≤ fuel
      → down_of image s es path fuel i place ≡ looked s image es place ks
  unfolding looked
  down_looked [] b i fuel place h l f =
      down_done image s es path i place fuel (omega (arith, length-drop i path, ap length h))
  down_looked (k ∷ ks) b i fuel place h l f =
      let n : ℕ = length k in
      let size : length path - i ≡ length (shorts (k ∷ ks)) = sym (length-drop i path) ∙ ap length h in
      let total = length-append k (shorts ks) in
      let here : Here path i (digits 2 n ++ (k ++ shorts ks)) [] = record { same = h ∙ sym (append-nil (shorts (k ∷ ks))) } in
      let e : u16_at path i ≡ got_to n (to (i + 2)) = u16_at_lem n (cut (digits 2 n) (k ++ shorts ks) here) b.0 in
      let behind : drop (i + 2) path ≡ k ++ shorts ks = after (cut (digits 2 n) (k ++ shorts ks) here) refl ∙ append-nil (k ++ shorts ks) in
      let room : i + 2 + n ≤ length path = omega arith in
      let t : inside_of path (i + 2) n ≡ true = le-leb (i + 2 + n) (length path) room in
      let part : part_of path (i + 2) n ≡ k = rw (t, behind) (take_at k (shorts ks) n refl) in
      let more : drop (i + 2 + n) path ≡ shorts ks = sym (drop-drop n (i + 2) path) ∙ ap (λ (x : List ℕ). drop n x) behind ∙ drop_at k (shorts ks) n refl in
      down_goes image s es path i place (omega arith) n (to (i + 2)) e t fuel (omega arith) (step_of image s es place k)
      (ap (λ (x : List ℕ). step_of image s es place x) part)
      ∙ thence_same (step_of image s es place k) (down_of image s es path (fuel - 1) (i + 2 + n)) (λ p. looked s image es p ks)
      (λ p. down_looked ks b.1 (i + 2 + n) (fuel - 1) p more room (omega arith))

-- a path of keys is looked up key by key
pub found_looked : (s image : List ℕ) (es : List Mark) (ks : List (List ℕ)) → Short ks → starts_at image ≡ true → find_of image s es (shorts ks) ≡ looked s image es 0 ks
unfolding find_of
found_looked s image es ks b t = rw t (down_looked s image es (shorts ks) ks b 0 (length (shorts ks)) 0 refl (omega arith) (omega arith))

-- ---- what is found

-- The whole promise, for values: in the buffer that `make_index` leaves of an image of a tree, `find` finds a path exactly where it leads down the tree, and there.
pub found_exactly : (image s : List ℕ) {t : Tree Sort.value} (w : Writable image s t) (index : List ℕ) → Holds image s (keys image s w) index
    → 13 * length (keys image s w) ≤ length index → (ks : List (List ℕ)) → Short ks
    → find_of image s (rows (length index / 13) index) (shorts ks)
    ≡ place_of s (way s (record { tree = t; records = w.images.records; spells = w.images.spells; at = 0 }) ks)
found_exactly image s w index h room ks b =
    found_looked s image (rows (length index / 13) index) ks b (starts_there s image w.images.spells w.images.right [] (fill image s w))
    ∙ path_leads s image w.images.spells w.images.right w.images.lies (rows (length index / 13) index) (index_kept image s w index h room) ks

-- The same, over what the calls promise: the buffer is what `make_index` left where it answered 0.
pub found_made : (image s : List ℕ) {t : Tree Sort.value} (w : Writable image s t) (index : List ℕ) → (index_of image s (length index)).answer ≡ 0
    → Holds image s (index_of image s (length index)).keys index → (ks : List (List ℕ)) → Short ks
    → find_of image s (rows (length index / 13) index) (shorts ks)
    ≡ place_of s (way s (record { tree = t; records = w.images.records; spells = w.images.spells; at = 0 }) ks)
found_made image s w index a h ks b =
    let n : ℕ = 13 * length (keys image s w) in
    cases (leb n (length index))
    (λ t. let r = leb-true n (length index) t in found_exactly image s w index (rw (index_is image s w (length index) r) at h) r ks b)
    (λ t.
    let z : 4 ≡ 0 = sym (ap (λ (x : Indexed). x.answer) (index_not image s w (length index) (leb-false n (length index) t))) ∙ a in
    absurd (omega arith))

-- ---- only whole keys are found

module _ (image s : List ℕ) (es : List Mark) (path : List ℕ) (bytes : Bytes path) (v : ℕ) where
  on_at : (f : Option ℕ) (k : ℕ → (Option ℕ)) {P : Type 0} → thence image s es f k ≡ Some v → ((p : ℕ) → k p ≡ Some v → P) → P
  on_at (Some p) k e g = g p e
  on_at None k e g = let z : ◌≡◌ {A = ℕ} 0 1 = cc in absurd (omega arith)

  key_first : (i n : ℕ) → Stood 2 path i n → i + 2 + n ≤ length path → Keys (drop (i + 2 + n) path) → Keys (drop i path)
  key_first i n d l r =
      let size : length (bytes_at n path (i + 2)) ≡ n = length_bytes n path (i + 2) l in
      let b = d.bound in
      record {
        keys = bytes_at n path (i + 2) ∷ r.keys;
        short = (omega arith, r.short);
        same = d.here.same
            ∙ rw size
            (ap (λ (x : List ℕ). digits 2 n ++ x) ((stood n path (i + 2)).same ∙ ap (λ (x : List ℕ). bytes_at n path (i + 2) ++ x) r.same));
      }

  down_keys : (fuel i place : ℕ) → length path ≤ i + fuel → down_of image s es path fuel i place ≡ Some v → Keys (drop i path)
  unfolding down_of
  down_keys zero i place h = λ e. let l : length path ≤ i = omega arith in record { keys = []; short = tt; same = drop_of_length-le path l }
  down_keys (suc fuel) i place h =
      cases (ltb i (length path))
      (λ t. rw t
      (end16 (λ (w : Option ℕ). w ≡ Some v → Keys (drop i path)) (λ a p. None) (λ a p e. let z : ◌≡◌ {A = ℕ} 0 1 = cc in absurd (omega arith)) path bytes i
      (λ n q. _)
      (λ n d.
      cases (inside_of path (i + 2) n)
      (λ u. rw u (λ e.
      on_at (step_of image s es place (bytes_at n path (i + 2))) (down_of image s es path fuel (i + 2 + n)) e
      (λ p g. key_first i n d (leb-true (i + 2 + n) (length path) u) (down_keys fuel (i + 2 + n) p (omega arith) g))))
      (λ u. rw u (λ e. let z : ◌≡◌ {A = ℕ} 0 1 = cc in absurd (omega arith))))))
      (λ t. rw t (λ e. record { keys = []; short = tt; same = drop_of_length-le path (ltb-false i (length path) t) }))

  -- whatever the marks are
  pub found_keys : find_of image s es path ≡ Some v → Keys path
  unfolding find_of
  found_keys =
      cases (starts_at image) (λ t. rw t (λ e. down_keys (length path) 0 0 (omega arith) e))
      (λ t. rw t (λ e. let z : ◌≡◌ {A = ℕ} 0 1 = cc in absurd (omega arith)))
