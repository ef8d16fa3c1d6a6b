-- An image whose writing is not refused is that of a tree.
use Rattle.std.specs.Prelude.{◌+◌, ◌≤◌, ◌≡◌, ◌∷◌, ◌++◌}
use Rattle.wire.proofs.Kit.{ℕ, zero, suc, refl, ap, ◌∙◌, List, [], append-nil, true, arith, length, drop, length-append, leb}
use Rattle.wire.proofs.Kit.{leb-true}
use Rattle.wire.specs.Choice.{pick}
use Rattle.wire.specs.Number.{Bytes}
use Rattle.wire.proofs.Laws.{picked}
use Rattle.wire.proofs.Stands.{Here, join}
use Rattle.image.specs.declared.record.Record.{Record}
use Rattle.image.specs.declared.writing.Row.{Row}
use Rattle.image.specs.Record.{bytes_of}
use Rattle.image.specs.Out.{Out, end, stop, put, ◌>>=◌, row, row_bytes, named_of}
use Rattle.amf0.specs.declared.write.Rest.{Rest}
use Rattle.amf0.specs.Standard.{Sort, Content, content, sort_of, Tree, depth}
use Rattle.amf0.specs.Shown.{laid, Named, Right}
use Rattle.amf0.specs.Writing.{value_at, items, pairs, dense, rest, value, whole}
use Rattle.amf0.specs.Written.{Lead, lead_of, Spells, Images}
use Rattle.amf0.specs.Written.Lead.{keyed, keyless}
use Rattle.amf0_theorems.proofs.Says.{rest_of}
use Rattle.amf0_theorems.proofs.Puts.{laid_append, laid_length, right_both}
use Rattle.amf0_theorems.proofs.Seen.{nothing, Took, Value, SeenValue, see_value, SeenPair, see_pair}

-- the writing is not refused, and ends at n
abbrev pub Ends : Out → ℕ → Type 0
Ends (end m) n = n ≡ m
Ends (stop a p) n = ⊥
Ends (put b d) n = Ends d n

pub bind_ends : {P : Type 0} (d : Out) (k : ℕ → Out) (n : ℕ) → Ends (d >>= k) n → ((m : ℕ) → Ends d m → Ends (k m) n → P) → P
bind_ends (end m) k n h go = go m refl h
bind_ends (stop a p) k n h go = absurd h
bind_ends (put b d) k n h go = bind_ends d k n h go

-- a writing after which no byte of the image is left
pub whole_ends : {P : Type 0} (image : List ℕ) (d : Out) (n : ℕ) → Ends (whole image d) n → ((m : ℕ) → Ends d m → length image ≤ m → P) → P
whole_ends image d n e go =
    bind_ends d (λ m. pick (leb (length image) m) (end m) (stop 6 m)) n e λ m f g.
    go m f (picked (λ (x : Out). Ends x n → length image ≤ m) (leb (length image) m) (end m) (stop 6 m) (λ h e. leb-true _ _ h) (λ h e. absurd e) g)

-- bytes that stand first and behind which nothing is left are all
pub used_up : {image x z : List ℕ} → Here image 0 x z → length image ≤ length x → image ≡ x
used_up {image} {x} {z} h l =
    let e : z ≡ [] = nothing z (omega (arith, ap length h.same, length-append x z)) in
    h.same ∙ (ap (λ y. x ++ y) e ∙ append-nil x)

-- ---- what is written stood in the image

module _ (s image : List ℕ) (bs : Bytes image) where
  -- from the place `at` of the image to n stand the records of a tree of at most `left` levels
  pub record Stood (l : Lead) (k : Sort) (left at n : ℕ) : Type 0 where
    pub tree : Tree k
    pub records : List Record
    pub rest : List ℕ
    pub right : Right s records
    pub spells : Spells s l k tree records
    pub here : Here image at (laid records) rest
    pub next : n ≡ at + length (laid records)
    pub deep : depth tree ≤ left

  stood : {l : Lead} {k : Sort} {left at n : ℕ} {t : Tree k} {rs : List Record} {z : List ℕ} → Right s rs → Spells s l k t rs → Here image at (laid rs) z
      → n ≡ at + length (laid rs) → depth t ≤ left → Stood l k left at n
  stood {t} {rs} {z} g c h e d = record { tree = t; records = rs; rest = z; right = g; spells = c; here = h; next = e; deep = d }

  -- a row that is put out names a text that stands
  pub row_ends : (w : Row) (at n : ℕ) (d : Out) → Ends (row s w at d) n → (named_of s w ≡ true) × Ends d n
  unfolding row
  row_ends w at n d =
      picked (λ (x : Out). Ends x n → (named_of s w ≡ true) × Ends d n) (named_of s w) (put (row_bytes s w) d) (stop 6 at) (λ h e. (h, e)) (λ h e. absurd e)

  -- one record more
  pub before : {at q n : ℕ} {r : Record} {z : List ℕ} (rs : List Record) → Took s image bs at r q → Here image q (laid rs) z → n ≡ q + length (laid rs)
      → Here image at (laid (r ∷ rs)) z × (n ≡ at + length (laid (r ∷ rs)))
  before {r} rs t h e = (join t.here refl (rw t.next at h), omega (arith, t.next, length-append (bytes_of r) (laid rs)))

  -- records, and then others
  pub both : {at p n : ℕ} {y z : List ℕ} (rs qs : List Record) → Here image at (laid rs) y → p ≡ at + length (laid rs) → Here image p (laid qs) z
      → n ≡ p + length (laid qs) → Here image at (laid (rs ++ qs)) z × (n ≡ at + length (laid (rs ++ qs)))
  both rs qs h e i f = (rw (laid_append rs qs) (join h refl (rw e at i)), omega (arith, laid_length rs qs))

  -- a tree of a record and those behind it, and one of the records of two trees
  headed : {l : Lead} {k : Sort} {left at q n : ℕ} {t : Tree k} {r : Record} {rs : List Record} {z : List ℕ} → Took s image bs at r q → Named s r → Right s rs
      → Here image q (laid rs) z → n ≡ q + length (laid rs) → Spells s l k t (r ∷ rs) → depth t ≤ left → Stood l k left at n
  headed {rs} o m g h e c d = let b = before rs o h e in stood (o.fits, m, g) c b.0 b.1 d

  joined : {i j k : Sort} {l m o : Lead} {left at p n : ℕ} {t : Tree i} (x : Stood l k left at p) (y : Stood m j left p n)
      → Spells s o i t (x.records ++ y.records) → depth t ≤ left → Stood o i left at n
  joined x y c d =
      let b = both x.records y.records x.here x.next y.here y.next in
      stood (right_both s x.records y.records x.right y.right) c b.0 b.1 d

  module _ (left : ℕ) (v : ℕ → Out) (good : (at n : ℕ) → Ends (v at) n → Stood keyed Sort.value left at n) where
    nil_sound : (q n : ℕ) → n ≡ q → Stood keyed (Sort.values 0) left q n
    nil_sound q n e = stood {z = drop q image} tt Spells.nil (record { same = refl }) (omega arith) (omega arith)

    items_sound : (c q n : ℕ) → Ends (items v image s c q) n → Stood keyed (Sort.values c) left q n
    unfolding items
    items_sound zero q n e = nil_sound q n e
    items_sound (suc c) q n e =
        bind_ends (v q) (items v image s c) n e λ m f g.
        let x = good q m f in
        let y = items_sound c m n g in
        joined x y (Spells.cons x.spells y.spells) (omega arith)

    pairs_sound : (fuel q n : ℕ) → Ends (pairs v image s fuel q) n → Stood keyed Sort.properties left q n
    unfolding pairs
    pairs_sound zero q n e = absurd e
    pairs_sound (suc fuel) at n e = by (pairs v image s fuel) (pairs_sound fuel) (see_pair s image bs at (λ q. v q >>= pairs v image s fuel) end) e
      where
        by : (more : ℕ → Out) {d : Out} → ((q n : ℕ) → Ends (more q) n → Stood keyed Sort.properties left q n)
            → SeenPair s image bs at (λ q. v q >>= more) end d → Ends d n → Stood keyed Sort.properties left at n
        by more ih (SeenPair.key {q} t k) e =
            bind_ends (v q) more n e λ m f g.
            let x = good q m f in
            let y = ih m n g in
            let b = both x.records y.records x.here x.next y.here y.next in
            headed t k.named (right_both s x.records y.records x.right y.right) b.0 b.1
            (Spells.property k.looks x.spells y.spells) (omega arith)
        by more ih (SeenPair.last {q} t k) e =
            headed {z = drop q image} t k.named tt (record { same = refl }) (omega arith) (Spells.none k.looks) (omega arith)
        by more ih (SeenPair.neither x) e = absurd e

    dense_sound : (fuel k q n : ℕ) → Ends (dense v image s fuel k q) n → Stood (keyless k) Sort.properties left q n
    unfolding dense
    dense_sound zero k q n = λ e. absurd e
    dense_sound (suc fuel) k q n =
        picked (λ (x : Out). Ends x n → Stood (keyless k) Sort.properties left q n) (value_at image q) _ _
        (λ h e.
        bind_ends (v q) (dense v image s fuel (k + 1)) n e λ m f g.
        let x = good q m f in
        let y = dense_sound fuel (k + 1) m n g in
        joined x y (Spells.dense x.spells y.spells) (omega arith))
        (λ h e.
        let x = pairs_sound (length image) q n e in
        stood x.right (Spells.pairs x.spells) x.here x.next x.deep)

    rest_sound : (c : Content) (q n : ℕ) → Ends (rest v image s (rest_of c) q) n → Stood (lead_of c) (sort_of c) left q n
    unfolding rest
    rest_sound Content.nothing q n e = nil_sound q n e
    rest_sound Content.named q n e = pairs_sound (length image) q n e
    rest_sound Content.associative q n e = dense_sound (suc (length image)) 0 q n e
    rest_sound (Content.ordered c) q n e = items_sound c q n e

    node_sound : {at q n : ℕ} {r : Record} {f : Rest} → Took s image bs at r q → Value s r f → Ends (rest v image s f q) n → Stood keyed Sort.value (suc left) at n
    node_sound {q} {n} t y e =
        let x = rest_sound (content y.what) q n (rw y.follows at e) in
        headed t y.named x.right x.here x.next (Spells.node y.looks x.spells) (omega arith)

  pub sound : (left at n : ℕ) → Ends (value left image s at) n → Stood keyed Sort.value left at n
  unfolding value
  sound zero at n e = absurd e
  sound (suc left) at n e =
      by (see_value s image bs at (rest (value left image s) image s)) (λ q r f. node_sound left (value left image s) (sound left)) e
    where
      by : {d : Out} {k : Rest → ℕ → Out} → SeenValue s image bs at k d
          → ((q : ℕ) (r : Record) (f : Rest) → Took s image bs at r q → Value s r f → Ends (k f q) n → Stood keyed Sort.value (suc left) at n)
          → Ends d n → Stood keyed Sort.value (suc left) at n
      by (SeenValue.seen {r} {q} {f} t y) go e = go q r f t y e
      by (SeenValue.unseen x) go e = absurd e

  -- an image of a tree and no bytes past it
  pub image_of : (left n : ℕ) → Ends (whole image (value left image s 0)) n → (t : Tree Sort.value) × Images s t image × (depth t ≤ left)
  image_of left n e =
      whole_ends image (value left image s 0) n e λ m f l.
      let x = sound left 0 m f in
      (x.tree, record { records = x.records; right = x.right; spells = x.spells; lies = used_up x.here (omega arith) }, x.deep)
