-- The index of an image that is that of a tree: its marks are those of the tree's keys.
use Rattle.std.specs.Prelude.{◌+◌, ◌*◌, ◌/◌, ◌≤◌, ◌<◌, ◌≡◌, ◌++◌}
use Rattle.wire.proofs.Kit.{ℕ, zero, suc, refl, sym, ap, ◌∙◌, List, [], append-nil, ⊎_elim, arith, length, le-leb, lt-leb}
use Rattle.wire.specs.Limit as limit
use Rattle.wire.proofs.Stands.{Here}
use Rattle.image.specs.declared.record.Record.{Record}
use Rattle.image.specs.Record.{size}
use Rattle.image.specs.Out.{Out, bytes as bytes_out}
use Rattle.amf0.specs.Standard.{Sort, Tree, depth}
use Rattle.amf0.specs.Shown.{laid, Right}
use Rattle.amf0.specs.Written.{Lead, Spells, Writable}
use Rattle.amf0.specs.Written.Lead.{keyed}
use Rattle.amf0_theorems.proofs.Puts.{Puts, then, laid_length, laid_size, first, one}
use Rattle.index.specs.declared.mark.Mark.{Mark}
use Rattle.index.specs.declared.walk.Rest.TheVariants.{Values}
use Rattle.index.specs.Mark.{flat, rows, Small}
use Rattle.index.specs.Keys.{value, rest}
use Rattle.index.specs.Index.{alone, root_of, keys_of, Indexed, unless, unindexed, index_of, Holds}
use Rattle.index_theorems.specs.Way.{marks}
use Rattle.index_theorems.specs.Stand.{In, Standing}
use Rattle.index_theorems.proofs.Latest.{in_both, Kept}
use Rattle.index_theorems.proofs.Marks.{Valued, means, walks, value_turn, none_turn}
use Rattle.index_theorems.proofs.Stand.{stand}
use Rattle.index_theorems.proofs.Held.{flat_length, rows_flat, held}

-- ---- what is put out

pub puts_bytes : {d : Out} {x : List ℕ} {n : ℕ} → Puts ⊥ d x n → bytes_out d ≡ x
unfolding bytes_out
puts_bytes Puts.done = refl
puts_bytes (Puts.more {b} p) = ap (λ (l : List ℕ). b ++ l) (puts_bytes p)
puts_bytes (Puts.shut d) = absurd d

pub puts_unless : {d : Out} {x : List ℕ} {n : ℕ} (y : Indexed) → Puts ⊥ d x n → unless d y ≡ y
unfolding unless
puts_unless y Puts.done = refl
puts_unless y (Puts.more p) = puts_unless y p
puts_unless y (Puts.shut d) = absurd d

module _ (s image : List ℕ) where
  root_alone : {t : Tree Sort.value} {rs : List Record} (c : Spells s keyed Sort.value t rs) → Right s rs → Here image 0 (laid rs) [] → root_of image s ≡ alone
  unfolding root_of
  root_alone (Spells.node {r} {i} {rs = qs} e c) g h =
      let w : Valued s r i = rw e at (means s r g.1) in
      rw (first s image r qs [] h g.0, w.role)

  ends_there : (v : ℕ → Out) (fuel at : ℕ) → 0 < fuel → Puts ⊥ (rest v image s 0 1 fuel (Values 0) at) [] at
  ends_there v zero at h = absurd (omega arith)
  ends_there v (suc fuel) at h = none_turn s image v 0 1 fuel at

  -- the keys of an image that spells a tree are the tree's
  pub keys_are : {t : Tree Sort.value} {rs : List Record} (c : Spells s keyed Sort.value t rs) → Right s rs → image ≡ laid rs → depth t ≤ 32
      → Puts ⊥ (keys_of image s) (flat (marks c 0 1 0)) (length image)
  unfolding keys_of
  keys_are {t} {rs} c g e d =
      let h : Here image 0 (laid rs) [] = record { same = e ∙ sym (append-nil (laid rs)) } in
      let l : length (laid rs) ≡ length image = ap length (sym e) in
      let w = walks s image {D = ⊥} c g [] 0 0 (length image) 32 (suc (length image)) h (omega arith) (omega arith) (λ i. omega arith) (omega arith) in
      let z = ends_there (value 32 image s) (length image) (length image) (omega (arith, one c)) in
      let q = value_turn s image (value 32 image s) 0 1 (length image) 0 0 (then (rest (value 32 image s) image s 0 1 (length image) (Values 0)) w z) in
      let k = rw (append-nil (flat (marks c 0 1 0))) at q in
      rw (root_alone c g h, ← append-nil (flat (marks c 0 1 0)))
      (then (λ n. _) k (rw (le-leb (length image) (length image) (omega arith)) Puts.done))

-- ---- the numbers are small

pub record Bounded (e : Mark) (d n : ℕ) : Type 0 where
  pub some : 1 ≤ e.depth
  pub depth : e.depth ≤ d
  pub container : e.container ≤ n
  pub key : e.key ≤ n
  pub value : e.value ≤ n

pub wider : {e : Mark} {d f n : ℕ} → Bounded e d n → d ≤ f → Bounded e f n
wider b h = record { some = b.some; depth = omega (arith, b.depth); container = b.container; key = b.key; value = b.value }

pub bounded : {s : List ℕ} {l : Lead} {k : Sort} {t : Tree k} {rs : List Record} (c : Spells s l k t rs) (place d at n : ℕ) → 1 ≤ d
    → at + length (laid rs) ≤ n → place ≤ n → (e : Mark) → In e (marks c place d at) → Bounded e (d + depth t) n
unfolding marks
bounded (Spells.node {r} {i = it} {t} {rs} q c) place d at n o m p e i =
    let l = laid_size r rs in
    wider (bounded c at (d + 1) (at + size r) n (omega arith) (omega arith) (omega arith) e i) (omega arith)
bounded (Spells.none q) place d at n o m p e i = absurd i
bounded (Spells.property {r} {k} {v} {ps} {rs} {qs} q c b) place d at n o m p e i =
    let l = laid_size r (rs ++ qs) in
    let w = laid_length rs qs in
    ⊎_elim
    (λ u.
    let a : e.depth ≡ d = ap (λ (x : Mark). x.depth) u in
    let b : e.container ≡ place = ap (λ (x : Mark). x.container) u in
    let c : e.key ≡ at = ap (λ (x : Mark). x.key) u in
    let f : e.value ≡ at + size r = ap (λ (x : Mark). x.value) u in
    record { some = omega arith; depth = omega arith; container = omega arith; key = omega arith; value = omega arith })
    (λ j. ⊎_elim
    (λ u. wider (bounded c place d (at + size r) n o (omega arith) p e u) (omega arith))
    (λ u. wider (bounded b place d (at + size r + length (laid rs)) n o (omega arith) p e u) (omega arith))
    (in_both e (marks c place d (at + size r)) (marks b place d (at + size r + length (laid rs))) j)) i
bounded Spells.nil place d at n o m p e i = absurd i
bounded (Spells.cons {rs} {qs} c b) place d at n o m p e i =
    let w = laid_length rs qs in
    ⊎_elim (λ u. wider (bounded c place d at n o (omega arith) p e u) (omega arith))
    (λ u. wider (bounded b place d (at + length (laid rs)) n o (omega arith) p e u) (omega arith))
    (in_both e (marks c place d at) (marks b place d (at + length (laid rs))) i)
bounded (Spells.dense {rs} {qs} c b) place d at n o m p e i =
    let w = laid_length rs qs in
    ⊎_elim (λ u. wider (bounded c place d at n o (omega arith) p e u) (omega arith))
    (λ u. wider (bounded b place d (at + length (laid rs)) n o (omega arith) p e u) (omega arith))
    (in_both e (marks c place d at) (marks b place d (at + length (laid rs))) i)
bounded (Spells.pairs c) place d at n o m p e i = bounded c place d at n o m p e i

-- ---- the public call

module _ (image s : List ℕ) {t : Tree Sort.value} (w : Writable image s t) where
  -- the marks of the tree's keys
  abbrev pub keys : List Mark
  keys = marks w.images.spells 0 1 0

  pub fill : Here image 0 (laid w.images.records) []
  fill = record { same = w.images.lies ∙ sym (append-nil (laid w.images.records)) }

  limits : (m : Mark) → In m keys → Bounded m (1 + depth t) (length image)
  limits m i =
      let l : length (laid w.images.records) ≡ length image = ap length (sym w.images.lies) in
      bounded w.images.spells 0 1 0 (length image) (omega arith) (omega arith) (omega arith) m i

  small : (m : Mark) → In m keys → Small m
  small m i =
      let b = limits m i in
      record {
        depth = omega (arith, b.depth, w.deep);
        container = omega (arith, b.container, w.image_size);
        key = omega (arith, b.key, w.image_size);
        value = omega (arith, b.value, w.image_size);
      }

  -- each is of a whole key record, right behind which its value's record stands
  pub marks_stand : (m : Mark) → In m keys → Standing image s m
  marks_stand m i = stand s image w.images.spells w.images.right [] 0 1 0 fill m i

  -- where there is room, the index is of the tree's keys
  pub index_is : (room : ℕ) → 13 * length keys ≤ room → index_of image s room ≡ record { answer = 0; keys = keys }
  index_is room h =
      let p = keys_are s image w.images.spells w.images.right w.images.lies w.deep in
      let b : bytes_out (keys_of image s) ≡ flat keys = puts_bytes p in
      let n = flat_length keys in
      rw (le-leb (length s) limit.bytes w.text_size, le-leb (length image) limit.image w.image_size, b, le-leb (length (flat keys)) room (omega arith))
      (puts_unless _ p ∙ rw (rows_flat keys small))

  -- where there is not, it is refused with 4
  pub index_not : (room : ℕ) → room < 13 * length keys → index_of image s room ≡ unindexed 4
  index_not room h =
      let p = keys_are s image w.images.spells w.images.right w.images.lies w.deep in
      let b : bytes_out (keys_of image s) ≡ flat keys = puts_bytes p in
      let n = flat_length keys in
      rw (le-leb (length s) limit.bytes w.text_size, le-leb (length image) limit.image w.image_size, b, lt-leb (length (flat keys)) room (omega arith))
      (puts_unless _ p)

  -- the marks of the buffer that it is left in, to look up in
  pub index_kept : (index : List ℕ) → Holds image s keys index → 13 * length keys ≤ length index → Kept image s keys (rows (length index / 13) index)
  index_kept index h room = held image s keys index h room small (λ m i. (limits m i).some) marks_stand
