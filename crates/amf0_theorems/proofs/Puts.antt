-- The records of a tree are put out as what the tree is written as.
use Rattle.std.specs.Prelude.{◌+◌, ◌≤◌, ◌<◌, ◌≡◌, ◌∷◌, ◌++◌}
use Rattle.wire.proofs.Kit.{ℕ, zero, suc, refl, ap, ◌∙◌, List, [], append_assoc, true, false, arith, length, length-append, le-leb}
use Rattle.wire.specs.Number.{digits}
use Rattle.wire.specs.Bytes.{decimal}
use Rattle.wire.specs.Field.{to, bytes_at}
use Rattle.wire.specs.Utf8.{ends}
use Rattle.wire.proofs.Stands.{Here, cut, skip, byte_at}
use Rattle.image.specs.declared.record.Record.{Record}
use Rattle.image.specs.declared.record.Field.{Field}
use Rattle.image.specs.Record.{layout_of, bytes_of, field_bytes, size}
use Rattle.image.specs.Taking.{record_at, Fits, taken_to}
use Rattle.image.specs.Out.{Out, end, stop, put, ◌>>=◌, row_of, row, named_of}
use Rattle.image.proofs.Laws.{size_bytes, size_some}
use Rattle.image.proofs.Found.{found_here}
use Rattle.amf0.specs.Standard.{Item, Sort, Content, content, sort_of, Tree, depth, follows}
use Rattle.amf0.specs.Shown.{Word, look, laid, Stands, Right}
use Rattle.amf0.specs.Writing.{kinds, among, value_at, items, pairs, dense, rest, value}
use Rattle.amf0.specs.Written.{write, write_item, Lead, lead_of, lead, Spells}
use Rattle.amf0.specs.Written.Lead.{keyed, keyless}
use Rattle.amf0_theorems.proofs.Complete.{within}
use Rattle.amf0_theorems.proofs.Says.{rest_of, says, Itemed, Keyed, Closed}

-- ---- a writing that is not refused

-- the writing puts out these bytes and ends at n; or, where D holds, it is refused with 5
pub data Puts (D : Type 0) : Out → List ℕ → ℕ → Type 0 where
  done : {n : ℕ} → Puts D (end n) [] n
  more : {b x : List ℕ} {d : Out} {n : ℕ} → Puts D d x n → Puts D (put b d) (b ++ x) n
  shut : {p : ℕ} {x : List ℕ} {n : ℕ} → D → Puts D (stop 5 p) x n

pub then : {D : Type 0} {d : Out} {x y : List ℕ} {m n : ℕ} (k : ℕ → Out) → Puts D d x m → Puts D (k m) y n → Puts D (d >>= k) (x ++ y) n
then k Puts.done q = q
then {y} k (Puts.more {b} {x} p) q = rw (append_assoc b x y) (Puts.more (then k p q))
then k (Puts.shut d) q = Puts.shut d

-- ---- rows of a text that stands

module _ (s : List ℕ) where
  -- the empty one does
  pub empty : Stands s 0 0
  unfolding ends
  empty = record { inside = omega arith; right = refl }

  pub named : {p n : ℕ} (m a b : Field) → Stands s p n → named_of s (row_of m a b p n) ≡ true
  named {p} {n} m a b h = rw (le-leb (p + n) (length s) h.inside) h.right

  pub row_puts : {D : Type 0} {p n e : ℕ} {x : List ℕ} {d : Out} (at : ℕ) (m a b : Field) → Stands s p n → Puts D d x e
      → Puts D (row s (row_of m a b p n) at d) ((field_bytes m ++ (field_bytes a ++ (field_bytes b ++ bytes_at n s p))) ++ x) e
  unfolding row
  row_puts {p} {n} at m a b h q = rw (named m a b h, le-leb (p + n) (length s) h.inside) (Puts.more q)

-- ---- rows of records

pub laid_append : (rs qs : List Record) → laid (rs ++ qs) ≡ laid rs ++ laid qs
laid_append [] qs = refl
laid_append (r ∷ rs) qs = rw (laid_append rs qs, append_assoc (bytes_of r) (laid rs) (laid qs))

pub laid_length : (rs qs : List Record) → length (laid (rs ++ qs)) ≡ length (laid rs) + length (laid qs)
laid_length rs qs = ap length (laid_append rs qs) ∙ length-append (laid rs) (laid qs)

pub laid_size : (r : Record) (rs : List Record) → length (laid (r ∷ rs)) ≡ size r + length (laid rs)
laid_size r rs = omega (arith, length-append (bytes_of r) (laid rs), size_bytes r)

pub right_left : (s : List ℕ) (rs qs : List Record) → Right s (rs ++ qs) → Right s rs
right_left s [] qs h = tt
right_left s (r ∷ rs) qs h = (h.0, h.1, right_left s rs qs h.2)

pub right_right : (s : List ℕ) (rs qs : List Record) → Right s (rs ++ qs) → Right s qs
right_right s [] qs h = h
right_right s (r ∷ rs) qs h = right_right s rs qs h.2

pub right_both : (s : List ℕ) (rs qs : List Record) → Right s rs → Right s qs → Right s (rs ++ qs)
right_both s [] qs g h = h
right_both s (r ∷ rs) qs g h = (g.0, g.1, right_both s rs qs g.2 h)

-- the records of a value take bytes, and so do those of properties
pub one : {s : List ℕ} {v : Tree Sort.value} {rs : List Record} → Spells s keyed Sort.value v rs → 1 ≤ length (laid rs)
one (Spells.node {r} {rs} e c) = omega (arith, size_some r, laid_size r rs)

some : {s : List ℕ} {l : Lead} {ps : Tree Sort.properties} {rs : List Record} → Spells s l Sort.properties ps rs → 1 ≤ length (laid rs)
some (Spells.none {r} e) = omega (arith, size_some r, laid_size r [])
some (Spells.property {r} {rs} {qs} e c d) = omega (arith, size_some r, laid_size r (rs ++ qs))
some (Spells.dense {rs} {qs} c d) = omega (arith, some d, laid_length rs qs)
some (Spells.pairs c) = some c

-- ---- the writing of a row of records

module _ (s image : List ℕ) where
  -- what is written of each sort
  abbrev pub part : (ℕ → Out) → ℕ → Lead → Sort → ℕ → Out
  part v fuel keyed Sort.value at = v at
  part v fuel keyed Sort.properties at = pairs v image s fuel at
  part v fuel keyed (Sort.values n) at = items v image s n at
  part v fuel (keyless k) Sort.value at = v at
  part v fuel (keyless k) Sort.properties at = dense v image s (suc fuel) k at
  part v fuel (keyless k) (Sort.values n) at = items v image s n at

  pub rest_part : (v : ℕ → Out) (c : Content) (q : ℕ) → rest v image s (rest_of c) q ≡ part v (length image) (lead_of c) (sort_of c) q
  unfolding rest items
  rest_part v Content.nothing q = refl
  rest_part v Content.named q = refl
  rest_part v Content.associative q = refl
  rest_part v (Content.ordered n) q = refl

  module _ {at : ℕ} (r : Record) (rs : List Record) (z : List ℕ) (h : Here image at (laid (r ∷ rs)) z) where
    pub first : Fits r → record_at image at ≡ taken_to r (to (at + size r))
    first f = found_here image (laid rs ++ z) at r f (cut (bytes_of r) (laid rs) h)

    pub others : Here image (at + size r) (laid rs) z
    others = rw (← size_bytes r) (skip (bytes_of r) (laid rs) h)

    pub kind_at : value_at image at ≡ among kinds (layout_of r).kind
    unfolding value_at bytes_of
    kind_at = rw (byte_at (layout_of r).kind (cut ((layout_of r).kind ∷ []) _ h))

    -- what it says, and the writing from there on
    itemed : {i : Item} → look s r ≡ Word.item i → Right s (r ∷ rs) → Itemed s r i
    itemed e g = rw e at (says s r g.0 g.1)

    keyed_by : {k : List ℕ} → look s r ≡ Word.name k → Right s (r ∷ rs) → Keyed s r k
    keyed_by e g = rw e at (says s r g.0 g.1)

    closed : look s r ≡ Word.close → Right s (r ∷ rs) → Closed s r
    closed e g = rw e at (says s r g.0 g.1)

    pub value_first : (left : ℕ) (i : Item) → look s r ≡ Word.item i → Right s (r ∷ rs)
        → value (suc left) image s at ≡ put (write_item i) (part (value left image s) (length image) (lead i) (follows i) (at + size r))
    unfolding value row
    value_first left i e g =
        let w = itemed e g in
        rw (first g.0, w.shape, w.named, w.puts, rest_part (value left image s) (content i) (at + size r))

    pub key_first : (v : ℕ → Out) (fuel : ℕ) (k : List ℕ) → look s r ≡ Word.name k → Right s (r ∷ rs)
        → pairs v image s (suc fuel) at ≡ put (digits 2 (length k) ++ k) (v (at + size r) >>= pairs v image s fuel)
    unfolding pairs row
    key_first v fuel k e g = let w = keyed_by e g in rw (first g.0, w.shape, w.named, w.puts)

    end_first : (v : ℕ → Out) (fuel : ℕ) → look s r ≡ Word.close → Right s (r ∷ rs) → pairs v image s (suc fuel) at ≡ put (0 ∷ 0 ∷ 9 ∷ []) (end (at + size r))
    unfolding pairs row
    end_first v fuel e g = let w = closed e g in rw (first g.0, w.shape, w.named, w.puts)

    -- whether it is a value's
    pub item_kind : (i : Item) → look s r ≡ Word.item i → Right s (r ∷ rs) → value_at image at ≡ true
    item_kind i e g = kind_at ∙ (itemed e g).kind

    pub key_kind : (k : List ℕ) → look s r ≡ Word.name k → Right s (r ∷ rs) → value_at image at ≡ false
    key_kind k e g = kind_at ∙ (keyed_by e g).kind

    end_kind : look s r ≡ Word.close → Right s (r ∷ rs) → value_at image at ≡ false
    end_kind e g = kind_at ∙ (closed e g).kind

  -- whether a value's record stands first
  pub value_begins : {v : Tree Sort.value} {rs : List Record} → Spells s keyed Sort.value v rs → Right s rs → (z : List ℕ) (at : ℕ) → Here image at (laid rs) z
      → value_at image at ≡ true
  value_begins (Spells.node {r} {i} {rs} e c) g z at h = item_kind r rs z h i e g

  pub pairs_begin : {ps : Tree Sort.properties} {rs : List Record} → Spells s keyed Sort.properties ps rs → Right s rs → (z : List ℕ) (at : ℕ)
      → Here image at (laid rs) z → value_at image at ≡ false
  pairs_begin (Spells.none {r} e) g z at h = end_kind r [] z h e g
  pairs_begin (Spells.property {r} {k} {rs} {qs} e c d) g z at h = key_kind r (rs ++ qs) z h k e g

  value_shut : (at : ℕ) → value_at image at ≡ true → {D : Type 0} {x : List ℕ} {n : ℕ} → D → Puts D (value zero image s at) x n
  unfolding value
  value_shut at e d = rw e (Puts.shut d)

  pub puts : {D : Type 0} {l : Lead} {k : Sort} {t : Tree k} {rs : List Record} → Spells s l k t rs → Right s rs → (z : List ℕ) (at n left fuel : ℕ)
      → Here image at (laid rs) z → n ≡ at + length (laid rs) → (left < depth t → D) → length (laid rs) ≤ fuel
      → Puts D (part (value left image s) fuel l k at) (write t) n
  unfolding items dense
  puts (Spells.node {r} {i} {t} {rs} e c) g z at n zero fuel h m d f =
      value_shut at (value_begins (Spells.node e c) g z at h) (d (omega arith))
  puts (Spells.node {r} {i} {t} {rs} e c) g z at n (suc left) fuel h m d f =
      let o = others r rs z h in
      rw (value_first r rs z h left i e g)
      (Puts.more (puts c g.2 z (at + size r) n left (length image) o (omega (arith, laid_size r rs)) (λ i. d (omega arith)) (within o)))
  puts (Spells.none {r} e) g z at n left zero h m d f = absurd (omega (arith, size_some r, laid_size r []))
  puts (Spells.none {r} e) g z at n left (suc fuel) h m d f =
      let l : n ≡ at + size r = omega (arith, laid_size r []) in
      rw (l, end_first r [] z h (value left image s) fuel e g) (Puts.more Puts.done)
  puts (Spells.property {r} {k} {v} {ps} {rs} {qs} e a c) g z at n left zero h m d f =
      absurd (omega (arith, size_some r, laid_size r (rs ++ qs)))
  puts (Spells.property {r} {k} {v} {ps} {rs} {qs} e a c) g z at n left (suc fuel) h m d f =
      let l = laid_length rs qs in
      let o = laid_size r (rs ++ qs) in
      let b = size_some r in
      let q : ℕ = at + size r in
      let j : Here image q (laid rs ++ laid qs) z = rw (laid_append rs qs) at (others r (rs ++ qs) z h) in
      rw (key_first r (rs ++ qs) z h (value left image s) fuel k e g)
      (Puts.more
      (then (pairs (value left image s) image s fuel)
      (puts a (right_left s rs qs g.2) (laid qs ++ z) q (q + length (laid rs)) left fuel (cut (laid rs) (laid qs) j) refl (λ i. d (omega arith)) (omega arith))
      (puts c (right_right s rs qs g.2) z (q + length (laid rs)) n left fuel (skip (laid rs) (laid qs) j) (omega arith) (λ i. d (omega arith)) (omega arith))))
  puts Spells.nil g z at n left fuel h m d f = let e : n ≡ at = omega arith in rw e Puts.done
  puts (Spells.cons {n = c} {v} {vs} {rs} {qs} a b) g z at n left fuel h m d f =
      let l = laid_length rs qs in
      let o : Here image at (laid rs ++ laid qs) z = rw (laid_append rs qs) at h in
      then (items (value left image s) image s c)
      (puts a (right_left s rs qs g) (laid qs ++ z) at (at + length (laid rs)) left fuel (cut (laid rs) (laid qs) o) refl (λ i. d (omega arith)) (omega arith))
      (puts b (right_right s rs qs g) z (at + length (laid rs)) n left fuel (skip (laid rs) (laid qs) o) (omega arith) (λ i. d (omega arith)) (omega arith))
  puts (Spells.dense {n = k} {v} {ps} {rs} {qs} a b) g z at n left zero h m d f =
      absurd (omega (arith, some b, laid_length rs qs))
  puts (Spells.dense {n = k} {v} {ps} {rs} {qs} a b) g z at n left (suc fuel) h m d f =
      let l = laid_length rs qs in
      let o : Here image at (laid rs ++ laid qs) z = rw (laid_append rs qs) at h in
      let j = cut (laid rs) (laid qs) o in
      let ga = right_left s rs qs g in
      rw (value_begins a ga (laid qs ++ z) at j, append_assoc (digits 2 (length (decimal k))) (decimal k) (write v ++ write ps))
      (Puts.more
      (Puts.more
      (then (dense (value left image s) image s (suc fuel) (k + 1))
      (puts a ga (laid qs ++ z) at (at + length (laid rs)) left (length (laid rs)) j refl (λ i. d (omega arith)) (omega arith))
      (puts b (right_right s rs qs g) z (at + length (laid rs)) n left fuel (skip (laid rs) (laid qs) o) (omega arith) (λ i. d (omega arith)) (omega (arith, one a))))))
  puts (Spells.pairs {n = k} c) g z at n left fuel h m d f =
      rw (pairs_begin c g z at h) (puts c g z at n left (length image) h m d (within h))
