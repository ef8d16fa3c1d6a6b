-- The keys of an image are those of the tree that its records spell, each with its depth and the places of its container and its value.
use Rattle.std.specs.Prelude.{◌+◌, ◌-◌, ◌≤◌, ◌<◌, ◌≡◌, ◌∷◌, ◌++◌, Some}
use Rattle.wire.proofs.Kit.{ℕ, zero, suc, refl, sym, List, [], append_assoc, true, false, sub-one, arith, length, le-leb}
use Rattle.wire.proofs.Kit.{ne_eqb}
use Rattle.wire.specs.Field.{to, bytes_at}
use Rattle.wire.proofs.Stands.{Here, cut, skip}
use Rattle.image.specs.declared.record.Record.{Record}
use Rattle.image.specs.declared.record.Record.TheVariants as R
use Rattle.image.specs.Record.{size}
use Rattle.image.specs.Out.{Out, ◌>>=◌, named_at}
use Rattle.image.proofs.Laws.{size_some}
use Rattle.image.proofs.Pouring.{named_none}
use Rattle.amf0.specs.Standard.{Item, Sort, Tree, depth, follows, Content, content, sort_of}
use Rattle.amf0.specs.Shown.{Word, look, laid, Stands, Named, Right}
use Rattle.amf0.specs.Shown.Word.{item, name, close, other}
use Rattle.amf0.specs.Writing.{value_at}
use Rattle.amf0.specs.Written.{Lead, lead, Spells, lead_of}
use Rattle.amf0.specs.Written.Lead.{keyed, keyless}
use Rattle.amf0_theorems.proofs.Complete.{within}
use Rattle.amf0_theorems.proofs.Puts.{Puts, then, laid_append, laid_length, laid_size, right_left, right_right, one, first, others, value_begins, pairs_begin}
use Rattle.index.specs.declared.mark.Mark.{Mark}
use Rattle.index.specs.declared.walk.Rest.{Rest}
use Rattle.index.specs.declared.walk.Rest.TheVariants.{Nothing, Pairs, Dense, Values}
use Rattle.index.specs.declared.walk.Role.{Role}
use Rattle.index.specs.declared.walk.Coming.TheVariants as Coming
use Rattle.index.specs.Mark.{mark, mark_bytes, flat}
use Rattle.index.specs.Keys.{role_of, own_of, pair_at, turn_of, rest, value}
use Rattle.index_theorems.specs.Way.{marks}

pub flat_append : (a b : List Mark) → flat (a ++ b) ≡ flat a ++ flat b
flat_append [] b = refl
flat_append (e ∷ a) b = rw (flat_append a b) (sym (append_assoc (mark_bytes e) (flat a) (flat b)))

-- ---- what the records are

-- what follows an item
abbrev pub due_of : Content → Rest
due_of Content.nothing = Nothing
due_of Content.named = Pairs
due_of Content.associative = Dense
due_of (Content.ordered n) = Values n

pub record Valued (s : List ℕ) (r : Record) (i : Item) : Type 0 where
  pub p : ℕ
  pub n : ℕ
  pub role : role_of r ≡ Role.Value p n (due_of (content i))
  pub named : named_at s p n ≡ true

pub record Keyed (s : List ℕ) (r : Record) (k : List ℕ) : Type 0 where
  pub p : ℕ
  pub n : ℕ
  pub is : r ≡ R.Key p n
  pub stands : Stands s p n
  pub text : bytes_at n s p ≡ k
  pub role : role_of r ≡ Role.Key p n
  pub named : named_at s p n ≡ true

pub record Closed (r : Record) : Type 0 where
  pub role : role_of r ≡ Role.End

abbrev pub Means : List ℕ → Record → Word → Type 0
Means s r (item i) = Valued s r i
Means s r (name k) = Keyed s r k
Means s r close = Closed r
Means s r other = Unit {0}

module _ (s : List ℕ) where
  pub stands : (p n : ℕ) → Stands s p n → named_at s p n ≡ true
  stands p n h = rw (le-leb (p + n) (length s) h.inside) h.right

  pub means : (r : Record) → Named s r → Means s r (look s r)
  means (R.Number n) h = record { p = 0; n = 0; role = refl; named = named_none s }
  means (R.Boolean b) h = record { p = 0; n = 0; role = refl; named = named_none s }
  means (R.Text p n) h = record { p = p; n = n; role = refl; named = stands p n h.0 }
  means R.Object h = record { p = 0; n = 0; role = refl; named = named_none s }
  means R.Null h = record { p = 0; n = 0; role = refl; named = named_none s }
  means R.Undefined h = record { p = 0; n = 0; role = refl; named = named_none s }
  means (R.Reference n) h = record { p = 0; n = 0; role = refl; named = named_none s }
  means (R.EcmaArray n) h = record { p = 0; n = 0; role = refl; named = named_none s }
  means R.ObjectEnd h = record { role = refl }
  means (R.StrictArray n) h = record { p = 0; n = 0; role = refl; named = named_none s }
  means (R.Date n present zone) h = record { p = 0; n = 0; role = refl; named = named_none s }
  means R.Unsupported h = record { p = 0; n = 0; role = refl; named = named_none s }
  means (R.Xml p n) h = record { p = p; n = n; role = refl; named = stands p n h.0 }
  means (R.TypedObject p n) h = record { p = p; n = n; role = refl; named = stands p n h.0 }
  means (R.Key p n) h = record { p = p; n = n; is = refl; stands = h.0; text = refl; role = refl; named = stands p n h.0 }
  means (R.Packet a b) h = tt
  means (R.Header p n f) h = tt
  means (R.Message p n q m) h = tt
  means (R.Lso l p n) h = tt

-- ---- the walk over a row of records

module _ (s image : List ℕ) where
  -- what is walked of each sort
  abbrev pub part : (ℕ → Out) → (place d fuel : ℕ) → Lead → Sort → ℕ → Out
  part v place d fuel keyed Sort.value at = v at
  part v place d fuel keyed Sort.properties at = rest v image s place d fuel Pairs at
  part v place d fuel keyed (Sort.values n) at = rest v image s place d fuel (Values n) at
  part v place d fuel (keyless k) Sort.value at = v at
  part v place d fuel (keyless k) Sort.properties at = rest v image s place d fuel Dense at
  part v place d fuel (keyless k) (Sort.values n) at = rest v image s place d fuel (Values n) at

  rest_part : (v : ℕ → Out) (place d fuel : ℕ) (c : Content) (q : ℕ) → rest v image s place d (suc fuel) (due_of c) q ≡ part v place d (suc fuel) (lead_of c) (sort_of c) q
  unfolding rest turn_of
  rest_part v place d fuel Content.nothing q = refl
  rest_part v place d fuel Content.named q = refl
  rest_part v place d fuel Content.associative q = refl
  rest_part v place d fuel (Content.ordered n) q = refl

  module _ {at : ℕ} (r : Record) (rs : List Record) (z : List ℕ) (h : Here image at (laid (r ∷ rs)) z) where
    value_first : (left : ℕ) (i : Item) → look s r ≡ Word.item i → Right s (r ∷ rs)
        → value (suc left) image s at ≡ part (value left image s) at (33 - left) (suc (length image)) (lead i) (follows i) (at + size r)
    unfolding value own_of
    value_first left i e g =
        let w : Valued s r i = rw e at (means s r g.1) in
        rw (first s image r rs z h g.0, w.role, w.named) (rest_part (value left image s) at (33 - left) (length image) (content i) (at + size r))

    pair_first : (k : List ℕ) → look s r ≡ Word.name k → Right s (r ∷ rs) → pair_at image s Pairs true at ≡ Some (Coming.Key (to (at + size r)) Pairs)
    unfolding pair_at
    pair_first k e g =
        let w : Keyed s r k = rw e at (means s r g.1) in
        rw (first s image r rs z h g.0, w.role, w.named)

    end_first : look s r ≡ Word.close → Right s (r ∷ rs) → pair_at image s Pairs true at ≡ Some (Coming.Done (to (at + size r)))
    unfolding pair_at
    end_first e g =
        let w : Closed r = rw e at (means s r g.1) in
        rw (first s image r rs z h g.0, w.role)

  module _ (v : ℕ → Out) (place d fuel at : ℕ) {D : Type 0} {x : List ℕ} {n : ℕ} where
    key_turn : (q : ℕ) → pair_at image s Pairs true at ≡ Some (Coming.Key (to q) Pairs) → Puts D (v q >>= rest v image s place d fuel Pairs) x n
        → Puts D (rest v image s place d (suc fuel) Pairs at) (mark_bytes (mark d place at q) ++ x) n
    unfolding rest turn_of
    key_turn q e p = rw e (Puts.more p)

    pub value_turn : (c : ℕ) → Puts D (v at >>= rest v image s place d fuel (Values c)) x n → Puts D (rest v image s place d (suc fuel) (Values (suc c)) at) x n
    unfolding rest turn_of
    value_turn c p = rw (ne_eqb (suc c) 0 (λ e. omega arith), sub-one (suc c)) p

    dense_turn : value_at image at ≡ true → Puts D (v at >>= rest v image s place d fuel Dense) x n → Puts D (rest v image s place d (suc fuel) Dense at) x n
    unfolding rest turn_of
    dense_turn e p = rw e p

    last_turn : value_at image at ≡ false → Puts D (rest v image s place d (suc fuel) Pairs at) x n → Puts D (rest v image s place d (suc fuel) Dense at) x n
    unfolding rest turn_of
    last_turn e p = rw e p

  end_turn : (v : ℕ → Out) (place d fuel at q : ℕ) {D : Type 0} → pair_at image s Pairs true at ≡ Some (Coming.Done (to q)) → Puts D (rest v image s place d (suc fuel) Pairs at) [] q
  unfolding rest turn_of
  end_turn v place d fuel at q e = rw e Puts.done

  pub none_turn : (v : ℕ → Out) (place d fuel at : ℕ) {D : Type 0} → Puts D (rest v image s place d (suc fuel) (Values 0) at) [] at
  unfolding rest turn_of
  none_turn v place d fuel at = Puts.done

  value_shut : (at : ℕ) → value_at image at ≡ true → {D : Type 0} {x : List ℕ} {n : ℕ} → D → Puts D (value zero image s at) x n
  unfolding value
  value_shut at e d = rw e (Puts.shut d)

  pub both : {D : Type 0} {o : Out} {m n : ℕ} (a b : List Mark) (k : ℕ → Out) → Puts D o (flat a) m → Puts D (k m) (flat b) n → Puts D (o >>= k) (flat (a ++ b)) n
  both a b k p q = rw (flat_append a b) (then k p q)

  -- The walk puts out the marks of the tree's keys, and ends behind its records; or, where D holds, which it does if the tree is too deep, it is refused with 5.
  pub walks : {D : Type 0} {l : Lead} {k : Sort} {t : Tree k} {rs : List Record} (c : Spells s l k t rs) → Right s rs → (z : List ℕ) (place at n left fuel : ℕ)
      → Here image at (laid rs) z → n ≡ at + length (laid rs) → left ≤ 32 → (left < depth t → D) → length (laid rs) < fuel
      → Puts D (part (value left image s) place (33 - left) fuel l k at) (flat (marks c place (33 - left) at)) n
  unfolding marks
  walks (Spells.node {r} {i} {t} {rs} e c) g z place at n zero fuel h m y d f =
      value_shut at (value_begins s image (Spells.node e c) g z at h) (d (omega arith))
  walks (Spells.node {r} {i} {t} {rs} e c) g z place at n (suc left) fuel h m y d f =
      let o = others s image r rs z h in
      let w : 33 - suc left + 1 ≡ 33 - left = omega arith in
      rw (value_first r rs z h left i e g, w)
      (walks c g.2 z at (at + size r) n left (suc (length image)) o (omega (arith, laid_size r rs)) (omega arith) (λ i. d (omega arith)) (omega (arith, within o)))
  walks (Spells.none {r} e) g z place at n left zero h m y d f = absurd (omega arith)
  walks (Spells.none {r} e) g z place at n left (suc fuel) h m y d f =
      let l : n ≡ at + size r = omega (arith, laid_size r []) in
      rw l (end_turn (value left image s) place (33 - left) fuel at (at + size r) (end_first r [] z h e g))
  walks (Spells.property {r} {k} {v} {ps} {rs} {qs} e a c) g z place at n left zero h m y d f = absurd (omega arith)
  walks (Spells.property {r} {k} {v} {ps} {rs} {qs} e a c) g z place at n left (suc fuel) h m y d f =
      let l = laid_length rs qs in
      let o = laid_size r (rs ++ qs) in
      let b = size_some r in
      let q : ℕ = at + size r in
      let j : Here image q (laid rs ++ laid qs) z = rw (laid_append rs qs) at (others s image r (rs ++ qs) z h) in
      key_turn (value left image s) place (33 - left) fuel at q (pair_first r (rs ++ qs) z h k e g)
      (both (marks a place (33 - left) q) (marks c place (33 - left) (q + length (laid rs))) (rest (value left image s) image s place (33 - left) fuel Pairs)
      (walks a (right_left s rs qs g.2) (laid qs ++ z) place q (q + length (laid rs)) left fuel (cut (laid rs) (laid qs) j)
      refl y (λ i. d (omega arith)) (omega arith))
      (walks c (right_right s rs qs g.2) z place (q + length (laid rs)) n left fuel (skip (laid rs) (laid qs) j)
      (omega arith) y (λ i. d (omega arith)) (omega arith)))
  walks Spells.nil g z place at n left zero h m y d f = absurd (omega arith)
  walks Spells.nil g z place at n left (suc fuel) h m y d f = let e : n ≡ at = omega arith in rw e (none_turn (value left image s) place (33 - left) fuel at)
  walks (Spells.cons {n = c} {v} {vs} {rs} {qs} a b) g z place at n left zero h m y d f = absurd (omega arith)
  walks (Spells.cons {n = c} {v} {vs} {rs} {qs} a b) g z place at n left (suc fuel) h m y d f =
      let l = laid_length rs qs in
      let o : Here image at (laid rs ++ laid qs) z = rw (laid_append rs qs) at h in
      let x = one a in
      value_turn (value left image s) place (33 - left) fuel at c
      (both (marks a place (33 - left) at) (marks b place (33 - left) (at + length (laid rs))) (rest (value left image s) image s place (33 - left) fuel (Values c))
      (walks a (right_left s rs qs g) (laid qs ++ z) place at (at + length (laid rs)) left (suc (length (laid rs))) (cut (laid rs) (laid qs) o)
      refl y (λ i. d (omega arith)) (omega arith))
      (walks b (right_right s rs qs g) z place (at + length (laid rs)) n left fuel (skip (laid rs) (laid qs) o) (omega arith) y (λ i. d (omega arith)) (omega arith)))
  walks (Spells.dense {n = k} {v} {ps} {rs} {qs} a b) g z place at n left zero h m y d f = absurd (omega arith)
  walks (Spells.dense {n = k} {v} {ps} {rs} {qs} a b) g z place at n left (suc fuel) h m y d f =
      let l = laid_length rs qs in
      let o : Here image at (laid rs ++ laid qs) z = rw (laid_append rs qs) at h in
      let j = cut (laid rs) (laid qs) o in
      let ga = right_left s rs qs g in
      let x = one a in
      dense_turn (value left image s) place (33 - left) fuel at (value_begins s image a ga (laid qs ++ z) at j)
      (both (marks a place (33 - left) at) (marks b place (33 - left) (at + length (laid rs))) (rest (value left image s) image s place (33 - left) fuel Dense)
      (walks a ga (laid qs ++ z) place at (at + length (laid rs)) left (suc (length (laid rs))) j refl y (λ i. d (omega arith)) (omega arith))
      (walks b (right_right s rs qs g) z place (at + length (laid rs)) n left fuel (skip (laid rs) (laid qs) o) (omega arith) y (λ i. d (omega arith)) (omega arith)))
  walks (Spells.pairs {n = k} c) g z place at n left zero h m y d f = absurd (omega arith)
  walks (Spells.pairs {n = k} c) g z place at n left (suc fuel) h m y d f =
      last_turn (value left image s) place (33 - left) fuel at (pairs_begin s image c g z at h) (walks c g z place at n left (suc fuel) h m y d f)
