-- What stands at a place of an image, as a writing sees it: the record that is due there, or none.
use Rattle.std.specs.Prelude.{◌+◌, ◌≤◌, ◌≡◌, ◌∷◌, Some, None}
use Rattle.wire.proofs.Kit.{ℕ, refl, sym, ap, ◌∙◌, List, [], Bool, true, false, arith, length, drop, length-drop, leb, eqb, leb-true}
use Rattle.wire.proofs.Kit.{eq-eqb, eqb-true}
use Rattle.wire.specs.Choice.{pick}
use Rattle.wire.specs.Number.{Bytes}
use Rattle.wire.specs.Utf8.{utf8}
use Rattle.wire.specs.Field.{to, bytes_at}
use Rattle.wire.specs.declared.cursor.Cursor.{Cursor}
use Rattle.wire.proofs.Laws.{picked, false_true}
use Rattle.wire.proofs.Stands.{Here, stood, byte_at, byte_stood, go8}
use Rattle.image.specs.declared.record.Field.{Field}
use Rattle.image.specs.declared.record.Layout.{Layout}
use Rattle.image.specs.declared.record.Record.{Record}
use Rattle.image.specs.declared.record.Record.TheVariants as R
use Rattle.image.specs.declared.writing.Row.{Row}
use Rattle.image.specs.Record.{◌bytes◌, layout_of, bytes_of, size}
use Rattle.image.specs.Taking.{record_at, Fits, Taken, taken_to}
use Rattle.image.specs.Out.{Out, stop, put, row, row_bytes, named_of}
use Rattle.image.proofs.Laws.{size_bytes}
use Rattle.image.proofs.Found.{found_here, found_stood}
use Rattle.amf0.specs.declared.write.Rest.{Rest}
use Rattle.amf0.specs.Shape.{Shape}
use Rattle.amf0.specs.Shape as S
use Rattle.amf0.specs.Standard.{Item, short_most, content}
use Rattle.amf0.specs.Shown.{look, Stands, Named}
use Rattle.amf0.specs.Shown.Word.{item, name, close}
use Rattle.amf0.specs.Writing.{texted, shape_of, kinds, among, value_at, taken, asked, valued, paired}
use Rattle.amf0_theorems.specs.Unwritten.{Fronts, NoValue, NoPair, Valued}
use Rattle.amf0_theorems.proofs.Says.{rest_of, Itemed, Keyed, Closed, says}

-- what is never so
pub clash : ◌≡◌ {A = ℕ} 0 1 → ⊥
clash e = omega arith

-- ---- the kind of a value

pub nothing : (x : List ℕ) → length x ≡ 0 → x ≡ []
nothing [] e = refl
nothing (b ∷ x) e = absurd (omega arith)

-- no byte stands past the end, and so no kind
pub beyond : (image : List ℕ) (at : ℕ) → length image ≤ at → drop at image ≡ []
beyond image at h = nothing (drop at image) (omega (arith, length-drop at image))

pub not_valued : Valued [] → ⊥
not_valued v = go [] refl v
  where
    go : (x : List ℕ) → x ≡ [] → Valued x → ⊥
    go x e (Valued.valued h) = clash (cc)

-- the writing's test for a value's kind, and what stands at the place
module _ (image : List ℕ) (at : ℕ) where
  pub valued_stands : value_at image at ≡ true → Valued (drop at image)
  unfolding value_at
  valued_stands =
      go8 (λ b. b ≡ true → Valued (drop at image)) (λ a p. false) image at (λ k p. among kinds k) (λ h e. rw (byte_stood image at h).same (Valued.valued e))
      (λ h e. absurd (false_true e))

  pub valued_seen : {x : List ℕ} → drop at image ≡ x → Valued x → value_at image at ≡ true
  unfolding value_at
  valued_seen e (Valued.valued {k} {x} h) = rw (byte_at {r = x} k (record { same = e })) h

  pub not_seen : {x : List ℕ} → drop at image ≡ x → (Valued x → ⊥) → value_at image at ≡ false
  not_seen {x} e f = go (value_at image at) refl
    where
      go : (b : Bool) → value_at image at ≡ b → b ≡ false
      go true h = absurd (f (rw e at (valued_stands h)))
      go false h = refl

  pub not_stands : value_at image at ≡ false → Valued (drop at image) → ⊥
  not_stands e v = false_true (sym e ∙ valued_seen refl v)

-- ---- what a record is put out as is what it says

module _ (s : List ℕ) where
  pub named_stands : (m : Field) (w p n : ℕ) → named_of s (texted m w p n) ≡ true → Stands s p n
  named_stands m w p n = go (leb (p + n) (length s)) refl
    where
      go : (t : Bool) → leb (p + n) (length s) ≡ t → pick t (utf8 (pick t (bytes_at n s p) [])) false ≡ true → Stands s p n
      go true h e = record { inside = leb-true (p + n) (length s) h; right = e }
      go false h e = absurd (false_true e)

  -- what is said by a value's record, a key's and the end's, where the row that each is put out as names a text that stands
  pub record Value (r : Record) (f : Rest) : Type 0 where
    pub named : Named s r
    pub what : Item
    pub looks : look s r ≡ item what
    pub follows : f ≡ rest_of (content what)

  pub record Pair (r : Record) : Type 0 where
    pub named : Named s r
    pub key : List ℕ
    pub looks : look s r ≡ name key

  pub record Last (r : Record) : Type 0 where
    pub named : Named s r
    pub looks : look s r ≡ close

  -- what a record says, by what it is put out as
  Looks : Record → Shape → Type 0
  Looks r (S.Value w f) = named_of s w ≡ true → Value r f
  Looks r (S.Key w) = named_of s w ≡ true → Pair r
  Looks r (S.End w) = Last r
  Looks r S.Other = Unit {0}

  bare : {r : Record} (i : Item) → Named s r → look s r ≡ item i → Value r (rest_of (content i))
  bare i h e = record { named = h; what = i; looks = e; follows = refl }

  looks : (r : Record) → Looks r (shape_of r)
  unfolding Looks
  looks (R.Number n) = λ u. bare (Item.number n) tt refl
  looks (R.Boolean b) = λ u. bare (Item.boolean b) tt refl
  looks (R.Text p n) =
      picked (Looks (R.Text p n)) (leb n short_most) _ _
      (λ h u. bare (Item.string (bytes_at n s p)) (named_stands (1 bytes 0x02) 2 p n u, tt) refl)
      (λ h u. bare (Item.string (bytes_at n s p)) (named_stands (1 bytes 0x0C) 4 p n u, tt) refl)
  looks R.Object = λ u. bare Item.object tt refl
  looks R.Null = λ u. bare Item.null tt refl
  looks R.Undefined = λ u. bare Item.undefined tt refl
  looks (R.Reference n) = λ u. bare (Item.reference n) tt refl
  looks (R.EcmaArray n) = λ u. bare (Item.ecma_array n) tt refl
  looks R.ObjectEnd = record { named = tt; looks = refl }
  looks (R.StrictArray n) = λ u. bare (Item.strict_array n) tt refl
  looks (R.Date n present z) = λ u. bare (Item.date n z) tt refl
  looks R.Unsupported = λ u. bare Item.unsupported tt refl
  looks (R.Xml p n) = λ u. bare (Item.xml_document (bytes_at n s p)) (named_stands (1 bytes 0x0F) 4 p n u, tt) refl
  looks (R.TypedObject p n) = λ u. bare (Item.typed_object (bytes_at n s p)) (named_stands (1 bytes 0x10) 2 p n u, tt) refl
  looks (R.Key p n) = λ u. record { named = (named_stands (0 bytes 0) 2 p n u, tt); key = bytes_at n s p; looks = refl }
  looks (R.Packet k m) = tt
  looks (R.Header p n b) = tt
  looks (R.Message p n q m) = tt
  looks (R.Lso l p n) = tt

-- ---- a record

module _ (s image : List ℕ) (bs : Bytes image) where
  -- a record that is taken stood there
  pub record Took (at : ℕ) (r : Record) (q : ℕ) : Type 0 where
    pub fits : Fits r
    pub rest : List ℕ
    pub here : Here image at (bytes_of r) rest
    pub next : q ≡ at + length (bytes_of r)

  took_found : {at : ℕ} {r : Record} {c : Cursor} → record_at image at ≡ taken_to r c → Took at r c.at
  took_found {at} {r} {c} h =
      let o = found_stood image bs at r c h in
      record {
        fits = o.fits;
        rest = drop (at + size r) image;
        here = rw o.same at (stood (size r) image at);
        next = rw (size_bytes r) o.next;
      }

module _ (s image : List ℕ) (bs : Bytes image) (at : ℕ) where
  -- a record is taken, and no other is right there; or none is, and 6
  pub data Taking (k : Record → ℕ → Out) : Out → Type 0 where
    takes : {r : Record} {q : ℕ} → Took s image bs at r q → ((t : Record) → Fronts s t (drop at image) → t ≡ r) → Taking k (k r q)
    bad : ((t : Record) → Fronts s t (drop at image) → ⊥) → Taking k (stop 6 at)

  -- a right record that stands first is found
  found : (r : Record) → Fronts s r (drop at image) → record_at image at ≡ taken_to r (to (at + size r))
  found r f = found_here image f.rest at r f.fits (record { same = f.same })

  pub taking : (k : Record → ℕ → Out) → Taking k (taken at (record_at image at) k)
  taking k = go (record_at image at) refl
    where
      go : (t : Taken) → record_at image at ≡ t → Taking k (taken at t k)
      go (Some x) h = Taking.takes (took_found s image bs h) λ t f. let e = found t f in cc
      go None h = Taking.bad λ t f. let e = found t f in clash (cc)

  -- a record of the kind that is due is taken, and no other is right there; or none of that kind is, and 6
  pub data Asking (due : ℕ) (k : Layout → ℕ → Out) : Out → Type 0 where
    asks : {r : Record} {q : ℕ} → Took s image bs at r q → (layout_of r).kind ≡ due → ((t : Record) → Fronts s t (drop at image) → t ≡ r)
        → Asking due k (k (layout_of r) q)
    other : ((t : Record) → Fronts s t (drop at image) → (layout_of t).kind ≡ due → ⊥) → Asking due k (stop 6 at)

  pub asking : (due : ℕ) (k : Layout → ℕ → Out) → Asking due k (asked image due at k)
  asking due k = go (taking (λ r q. pick (eqb (layout_of r).kind due) (k (layout_of r) q) (stop 6 at)))
    where
      go : {d : Out} → Taking (λ r q. pick (eqb (layout_of r).kind due) (k (layout_of r) q) (stop 6 at)) d → Asking due k d
      go (Taking.takes {r} {q} t one) =
          picked (Asking due k) (eqb (layout_of r).kind due) (k (layout_of r) q) (stop 6 at) (λ h. Asking.asks t (eqb-true (layout_of r).kind due h) one)
          (λ h. Asking.other λ x f e.
          false_true (sym h ∙ eq-eqb (layout_of r).kind due (ap (λ (y : Record). (layout_of y).kind) (sym (one x f)) ∙ e)))
      go (Taking.bad n) = Asking.other λ x f e. n x f

  -- a record that is taken stands first
  pub took_fronts : {r : Record} {q : ℕ} → Took s image bs at r q → Named s r → Fronts s r (drop at image)
  took_fronts t n = record { rest = t.rest; same = t.here.same; fits = t.fits; named = n }

  -- ---- a value's

  -- a value's record is taken, and put out; or there is none, and 6
  pub data SeenValue (k : Rest → ℕ → Out) : Out → Type 0 where
    seen : {r : Record} {q : ℕ} {f : Rest} {b : List ℕ} → Took s image bs at r q → Value s r f → SeenValue k (put b (k f q))
    unseen : NoValue s (drop at image) → SeenValue k (stop 6 at)

  -- no value's record is right there, where the one that is taken is not put out as one
  no_value : {r : Record} → ((t : Record) → Fronts s t (drop at image) → t ≡ r) → ((w : Row) (f : Rest) → shape_of r ≡ S.Value w f → named_of s w ≡ true → ⊥)
      → NoValue s (drop at image)
  no_value {r} one n = record { none = none }
    where
      none : (t : Record) (i : Item) → Fronts s t (drop at image) → look s t ≡ item i → ⊥
      none t i f e =
          let w : Itemed s t i = rw e at (says s t f.fits f.named) in
          let g = one t f in
          n w.row (rest_of (content i)) (cc w.shape) w.named

  pub see_value : (k : Rest → ℕ → Out) → SeenValue k (taken at (record_at image at) λ r q. valued at (shape_of r) λ w f. row s w at (k f q))
  unfolding Looks row
  see_value k = go _ (taking (λ r q. valued at (shape_of r) λ w f. row s w at (k f q)))
    where
      by : {r : Record} {q : ℕ} → Took s image bs at r q → ((t : Record) → Fronts s t (drop at image) → t ≡ r) → (h : Shape) → shape_of r ≡ h → Looks s r h
          → SeenValue k (valued at h λ w f. row s w at (k f q))
      by {q} t one (S.Value w f) e l =
          picked (SeenValue k) (named_of s w) (put (row_bytes s w) (k f q)) (stop 6 at) (λ h. SeenValue.seen t (l h))
          (λ h. SeenValue.unseen (no_value one λ v g i n. let o : v ≡ w = cc in false_true (sym h ∙ (cc))))
      by t one (S.Key w) e l = SeenValue.unseen (no_value one λ v g i n. clash (cc))
      by t one (S.End w) e l = SeenValue.unseen (no_value one λ v g i n. clash (cc))
      by t one S.Other e l = SeenValue.unseen (no_value one λ v g i n. clash (cc))

      go : (d : Out) → Taking (λ r q. valued at (shape_of r) λ w f. row s w at (k f q)) d → SeenValue k d
      go d (Taking.takes {r} t one) = by t one (shape_of r) refl (looks s r)
      go d (Taking.bad n) = SeenValue.unseen (record { none = λ t i f e. n t f })

  -- ---- a key's, or the end's

  -- a key's record is taken, or the end's, and put out; or there is neither, and 6
  pub data SeenPair (k l : ℕ → Out) : Out → Type 0 where
    key : {r : Record} {q : ℕ} {b : List ℕ} → Took s image bs at r q → Pair s r → SeenPair k l (put b (k q))
    last : {r : Record} {q : ℕ} {b : List ℕ} → Took s image bs at r q → Last s r → SeenPair k l (put b (l q))
    neither : NoPair s (drop at image) → SeenPair k l (stop 6 at)

  -- no key's and no end's is, where the one that is taken is not put out as one
  no_pair : {r : Record} → ((t : Record) → Fronts s t (drop at image) → t ≡ r) → ((w : Row) → shape_of r ≡ S.Key w → named_of s w ≡ true → ⊥)
      → ((w : Row) → shape_of r ≡ S.End w → named_of s w ≡ true → ⊥) → NoPair s (drop at image)
  no_pair {r} one n m = record { no_key = no_key; no_end = no_end }
    where
      no_key : (t : Record) (k : List ℕ) → Fronts s t (drop at image) → look s t ≡ name k → ⊥
      no_key t k f e =
          let w : Keyed s t k = rw e at (says s t f.fits f.named) in
          let g = one t f in
          n w.row (cc w.shape) w.named

      no_end : (t : Record) → Fronts s t (drop at image) → look s t ≡ close → ⊥
      no_end t f e =
          let w : Closed s t = rw e at (says s t f.fits f.named) in
          let g = one t f in
          m w.row (cc w.shape) w.named

  pub see_pair : (k l : ℕ → Out) → SeenPair k l (taken at (record_at image at) λ r q. paired at (shape_of r) (λ w. row s w at (k q)) (λ w. row s w at (l q)))
  unfolding Looks row
  see_pair k l = go _ (taking (λ r q. paired at (shape_of r) (λ w. row s w at (k q)) (λ w. row s w at (l q))))
    where
      by : {r : Record} {q : ℕ} → Took s image bs at r q → ((t : Record) → Fronts s t (drop at image) → t ≡ r) → (h : Shape) → shape_of r ≡ h → Looks s r h
          → SeenPair k l (paired at h (λ w. row s w at (k q)) (λ w. row s w at (l q)))
      by t one (S.Value w f) e x = SeenPair.neither (no_pair one (λ v i n. clash (cc)) (λ v i n. clash (cc)))
      by {q} t one (S.Key w) e x =
          picked (SeenPair k l) (named_of s w) (put (row_bytes s w) (k q)) (stop 6 at) (λ h. SeenPair.key t (x h))
          (λ h. SeenPair.neither (no_pair one (λ v i n. let o : v ≡ w = cc in false_true (sym h ∙ (cc))) (λ v i n. clash (cc))))
      by {q} t one (S.End w) e x =
          picked (SeenPair k l) (named_of s w) (put (row_bytes s w) (l q)) (stop 6 at) (λ h. SeenPair.last t x)
          (λ h. SeenPair.neither (no_pair one (λ v i n. clash (cc)) (λ v i n. let o : v ≡ w = cc in false_true (sym h ∙ (cc)))))
      by t one S.Other e x = SeenPair.neither (no_pair one (λ v i n. clash (cc)) (λ v i n. clash (cc)))

      go : (d : Out) → Taking (λ r q. paired at (shape_of r) (λ w. row s w at (k q)) (λ w. row s w at (l q))) d → SeenPair k l d
      go d (Taking.takes {r} t one) = by t one (shape_of r) refl (looks s r)
      go d (Taking.bad n) = SeenPair.neither (record { no_key = λ t k f e. n t f; no_end = λ t f e. n t f })
