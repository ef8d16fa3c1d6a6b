-- The laws of the writing, step by step, that the functions' proofs cite.
use Rattle.std.specs.Prelude.{◌+◌, ◌-◌, ◌*◌, ◌≤◌, ◌<◌, ◌≡◌, ◌∷◌, Some, None}
use Rattle.wire.proofs.Kit.{ℕ, zero, suc, refl, sym, ap, ◌∙◌, List, [], Bool, true, false, sub-one, arith, length, get_or, leb, eqb}
use Rattle.wire.proofs.Kit.{leb-true, leb-false, eq-eqb, ne_eqb}
use Rattle.wire.specs.Choice.{pick}
use Rattle.wire.specs.Number.{digits, Bytes}
use Rattle.wire.specs.Bytes.{laid, decimal}
use Rattle.wire.specs.Limit as limit
use Rattle.wire.specs.Field.{u8_at, got_to}
use Rattle.wire.specs.declared.cursor.Cursor.{Cursor}
use Rattle.wire.proofs.Laws.{pick_yes, pick_no, picked}
use Rattle.image.specs.declared.record.Layout.{Layout}
use Rattle.image.specs.declared.record.Record.{Record}
use Rattle.image.specs.declared.record.Record.TheVariants.{Number, Boolean, Text, Object, Null, Undefined, Reference, EcmaArray, ObjectEnd, StrictArray, Date, Unsupported, Xml, TypedObject, Key, Packet, Header, Message, Lso}
use Rattle.image.specs.Kind as kind
use Rattle.image.specs.Record.{layout_of}
use Rattle.image.specs.Taking.{record_at, Taken, taken_to}
use Rattle.image.specs.Out.{Out, end, stop, put, ◌>>=◌, pour, poured, Grown, bytes, settled, Written, written, unwritten}
use Rattle.image.proofs.Laws.{size_some}
use Rattle.image.proofs.Found.{found_stood, found_kind}
use Rattle.image.proofs.Pouring.{Slim, pour_then, pour_halt, pour_stop, pour_end, went, bytes_bind, settled_stop, settled_halt, settled_over, settled_full, settled_fits}
use Rattle.amf0.specs.declared.write.Rest.TheVariants.{Nothing, Pairs, Dense, Values}
use Rattle.amf0.specs.Standard.{short_most}
use Rattle.amf0.specs.Shape.{Shape}
use Rattle.amf0.specs.Shape as S
use Rattle.amf0.specs.Writing.{shape_of, kinds, among, taken, asked, indexed, value_at, items, pairs, dense, rest, value, top_value, before, value_in, whole, write_of}
use Rattle.amf0.specs.Code.{Ahead, growth, opened, keyed}
use Rattle.wire.specs.Answer.{denied}
use Rattle.image.specs.Due.{Step, went_to}
use Rattle.wire.proofs.Same.{ok_first, ok_second}

-- ---- the places that a step goes on at

pub ahead : {x : Step} {l h k l' h' k' : ℕ} → Ahead x l h k → l' ≤ l → h ≤ h' → k + growth * l' ≤ k' + growth * l → Ahead x l' h' k'
ahead w lo hi gr = record { bounds = λ c n e. let b = w.bounds c n e in omega arith }

pub ahead_next : {c : Cursor} {n l h k : ℕ} → l ≤ c.at → c.at ≤ h → n + growth * l ≤ k + growth * c.at → Ahead (went_to c n) l h k
ahead_next {c} {n} lo hi gr =
    record { bounds = λ d m e. let f : c.at ≡ d.at = ap (λ (x : Cursor). x.at) (ok_first e) in let g : n ≡ m = ok_second e in omega arith }

pub ahead_grown : {x : Step} {next most l h k : ℕ} → Grown x next most → l ≤ next → next ≤ h → most + growth * l ≤ k + growth * next → Ahead x l h k
ahead_grown w lo hi gr = record { bounds = λ c n e. let b = w.bounds c n e in omega arith }

pub grown : {x : Step} {p q h k : ℕ} → Grown x p h → p ≡ q → h ≤ k → Grown x q k
grown w e l = record { bounds = λ c n f. let b = w.bounds c n f in omega arith }

-- ---- a record that is found

pub known_bytes : (s : List ℕ) → ((i : ℕ) → get_or s i 0 < 256) → Bytes s
known_bytes [] h = tt
known_bytes (b ∷ s) h = (h 0, known_bytes s (λ i. h (suc i)))

-- it takes bytes of the image
pub record Past (image : List ℕ) (at : ℕ) (c : Cursor) : Type 0 where
  pub from : at + 1 ≤ c.at
  pub fits : c.at ≤ length image

pub past : (image : List ℕ) → ((i : ℕ) → get_or image i 0 < 256) → (at : ℕ) {r : Record} {c : Cursor} → record_at image at ≡ taken_to r c → Past image at c
past image h at {r} {c} e =
    let k = found_stood image (known_bytes image h) at r c e in
    let z = size_some r in
    record { from = omega (arith, k.next); fits = k.within }

-- ---- a record of a kind

-- a record that is found lies so, and ends at q: what is asked for goes on there, or it is of another kind
pub record Asked (image : List ℕ) (due at : ℕ) (k : Layout → ℕ → Out) (l : Layout) (q : ℕ) : Type 0 where
  pub from : at + 1 ≤ q
  pub fits : q ≤ length image
  pub same : l.kind ≡ due → asked image due at k ≡ k l q
  pub other : (l.kind ≡ due → ⊥) → asked image due at k ≡ stop 6 at

module _ (image : List ℕ) (due at : ℕ) where
  -- what is asked for in one way and in another goes alike, where it does so behind the record
  pub asked_both : (P : Out → Out → Type 0) (j k : Layout → ℕ → Out) → P (stop 6 at) (stop 6 at) → ((l : Layout) (q : ℕ) → P (j l q) (k l q))
      → P (asked image due at j) (asked image due at k)
  asked_both P j k none some = go (record_at image at)
    where
      by : (t : Bool) (l : Layout) (q : ℕ) → P (pick t (j l q) (stop 6 at)) (pick t (k l q) (stop 6 at))
      by true l q = some l q
      by false l q = none

      go : (t : Taken) → P (taken at t λ r q. pick (eqb (layout_of r).kind due) (j (layout_of r) q) (stop 6 at))
          (taken at t λ r q. pick (eqb (layout_of r).kind due) (k (layout_of r) q) (stop 6 at))
      go (Some x) = by (eqb (layout_of x.0).kind due) (layout_of x.0) x.1.at
      go None = none

  module _ (k : Layout → ℕ → Out) where
    pub asked_bad : record_at image at ≡ None → asked image due at k ≡ stop 6 at
    asked_bad e = rw e

    module _ (h : (i : ℕ) → get_or image i 0 < 256) where
      pub asks : {r : Record} {c : Cursor} {l : Layout} → record_at image at ≡ taken_to r c → l ≡ layout_of r → Asked image due at k l c.at
      asks {r} {c} {l} e w =
          let p = past image h at e in
          let f : asked image due at k ≡ pick (eqb l.kind due) (k l c.at) (stop 6 at) =
          rw e (ap (λ (m : Layout). pick (eqb m.kind due) (k m c.at) (stop 6 at)) (sym w)) in
          record { from = p.from; fits = p.fits; same = λ n. f ∙ rw (eq-eqb l.kind due n); other = λ n. f ∙ rw (ne_eqb l.kind due n) }

      -- another kind's byte stands there
      pub asked_none : (kind : ℕ) (d : Cursor) → u8_at image at ≡ got_to kind d → (kind ≡ due → ⊥) → asked image due at k ≡ stop 6 at
      asked_none kind d byte other = go (record_at image at) refl
        where
          go : (t : Taken) → record_at image at ≡ t → asked image due at k ≡ stop 6 at
          go None e = asked_bad e
          go (Some x) e = (asks e refl).other λ f. other (found_kind image (known_bytes image h) at x.0 x.1 e kind d byte ∙ f)

-- ---- rows

-- a shape goes by its record's kind, and its row is slim
abbrev pub Shaped : ℕ → Shape → Type 0
Shaped k (S.Value w f) = (among kinds k ≡ true) × Slim w
Shaped k (S.Key w) = (k ≡ kind.key) × Slim w
Shaped k (S.End w) = (k ≡ kind.object_end) × Slim w
Shaped k S.Other = Unit {0}

pub shaped : (r : Record) → Shaped (layout_of r).kind (shape_of r)
shaped (Number n) = (refl, omega arith)
shaped (Boolean b) = (refl, omega arith)
shaped (Text p n) = picked (Shaped kind.text) (leb n short_most) _ _ (λ h. (refl, omega arith)) (λ h. (refl, omega arith))
shaped Object = (refl, omega arith)
shaped Null = (refl, omega arith)
shaped Undefined = (refl, omega arith)
shaped (Reference n) = (refl, omega arith)
shaped (EcmaArray n) = (refl, omega arith)
shaped ObjectEnd = (refl, omega arith)
shaped (StrictArray n) = (refl, omega arith)
shaped (Date n z t) = (refl, omega arith)
shaped Unsupported = (refl, omega arith)
shaped (Xml p n) = (refl, omega arith)
shaped (TypedObject p n) = (refl, omega arith)
shaped (Key p n) = (refl, omega arith)
shaped (Packet h m) = tt
shaped (Header p n f) = tt
shaped (Message p n q m) = tt
shaped (Lso l p n) = tt

-- the same of a shape that is known
pub known_shape : (r : Record) {x : Shape} → shape_of r ≡ x → Shaped (layout_of r).kind x
known_shape r e = rw e at (shaped r)

-- ---- a value

module _ (image text : List ℕ) (at : ℕ) where
  pub value_shut : (left : ℕ) → left ≡ 0 → value left image text at ≡ stop (pick (value_at image at) 5 6) at
  unfolding value
  value_shut left z = rw z

  pub value_opened : (left : ℕ) → (left ≡ 0 → ⊥) → value left image text at ≡ opened (record_at image at) text at (rest (value (left - 1) image text) image text)
  unfolding value
  value_opened zero z = absurd (z refl)
  value_opened (suc left) z = rw (sub-one (suc left))

  -- ---- pairs

  module _ (inner : ℕ → Out) (fuel : ℕ) where
    pub pairs_keyed : 0 < fuel → pairs inner image text fuel at ≡ keyed (record_at image at) text at (λ q. inner q >>= pairs inner image text (fuel - 1))
    unfolding pairs
    pairs_keyed h = go fuel h
      where
        go : (f : ℕ) → 0 < f → pairs inner image text f at ≡ keyed (record_at image at) text at (λ q. inner q >>= pairs inner image text (f - 1))
        go zero h = absurd (omega arith)
        go (suc n) h = rw (sub-one (suc n))

    -- ---- values without a key

    pub dense_value : (k : ℕ) → 0 < fuel → value_at image at ≡ true
        → dense inner image text fuel k at ≡ indexed k (inner at >>= dense inner image text (fuel - 1) (k + 1))
    unfolding dense
    dense_value k h e = go fuel h
      where
        go : (f : ℕ) → 0 < f → dense inner image text f k at ≡ indexed k (inner at >>= dense inner image text (f - 1) (k + 1))
        go zero h = absurd (omega arith)
        go (suc n) h = rw (e, sub-one (suc n))

    pub dense_pairs : (k : ℕ) → 0 < fuel → value_at image at ≡ false → dense inner image text fuel k at ≡ pairs inner image text (length image) at
    unfolding dense
    dense_pairs k h e = go fuel h
      where
        go : (f : ℕ) → 0 < f → dense inner image text f k at ≡ pairs inner image text (length image) at
        go zero h = absurd (omega arith)
        go (suc n) h = rw e

-- the key is put out, and the rest goes on behind it
pub pour_indexed : (k : ℕ) (d : Out) (count : ℕ) (out : List ℕ) {n : ℕ} {o : List ℕ} → n ≡ count + 2 + length (decimal k)
    → o ≡ laid (decimal k) (count + 2) (laid (digits 2 (length (decimal k))) count out) → pour (indexed k d) count out ≡ pour d n o
unfolding pour
pour_indexed k d count out e f = rw (e, f)

-- ---- values in a row

module _ (inner : ℕ → Out) (image text : List ℕ) where
  pub items_done : (k at : ℕ) → k ≤ 0 → items inner image text k at ≡ end at
  unfolding items
  items_done zero at h = refl
  items_done (suc k) at h = absurd (omega arith)

  pub items_item : (k at : ℕ) → 0 < k → items inner image text k at ≡ inner at >>= items inner image text (k - 1)
  unfolding items
  items_item zero at h = absurd (omega arith)
  items_item (suc k) at h = rw (sub-one (suc k))

  -- one value is that value
  pub rest_one : (at : ℕ) → rest inner image text (Values 1) at ≡ inner at
  unfolding rest items
  rest_one at = go (inner at)
    where
      go : (d : Out) → d >>= items inner image text 0 ≡ d
      go (end n) = refl
      go (stop a p) = refl
      go (put b d) = ap (put b) (go d)

  -- ---- what follows a value's own bytes

  pub rest_nothing : (at : ℕ) → rest inner image text Nothing at ≡ end at
  unfolding rest
  rest_nothing at = refl

  pub rest_pairs : (at : ℕ) → rest inner image text Pairs at ≡ pairs inner image text (length image) at
  unfolding rest
  rest_pairs at = refl

  pub rest_dense : (at : ℕ) → rest inner image text Dense at ≡ dense inner image text (suc (length image)) 0 at
  unfolding rest
  rest_dense at = refl

  pub rest_values : (n at : ℕ) → rest inner image text (Values n) at ≡ items inner image text n at
  unfolding rest
  rest_values n at = refl

-- ---- the calls

module _ (image text : List ℕ) (count at : ℕ) where
  pub in_over : (length text ≤ limit.bytes → length image ≤ limit.image → at ≤ length image → count ≤ before → ⊥) → value_in image text count at ≡ stop 1 0
  unfolding value_in
  in_over h =
      let P : Out → Type 0 = λ (d : Out). d ≡ stop 1 0 in
      picked P (leb (length text) limit.bytes) _ _
      (λ t. picked P (leb (length image) limit.image) _ _
      (λ i. picked P (leb at (length image)) _ _
      (λ p. picked P (leb count before) _ _ (λ n. absurd (h (leb-true _ _ t) (leb-true _ _ i) (leb-true _ _ p) (leb-true _ _ n))) (λ n. refl)) (λ p. refl))
      (λ i. refl))
      (λ t. refl)

  pub in_value : length text ≤ limit.bytes → length image ≤ limit.image → at ≤ length image → count ≤ before → value_in image text count at ≡ top_value image text at
  unfolding value_in
  in_value t i p h =
      pick_yes (length text) limit.bytes _ _ t ∙ pick_yes (length image) limit.image _ _ i ∙ pick_yes at (length image) _ _ p ∙ pick_yes count before _ _ h

-- the check for bytes past the end of the tree puts nothing out
check_bytes : (image : List ℕ) (n : ℕ) → bytes (pick (leb (length image) n) (end n) (stop 6 n)) ≡ []
unfolding bytes
check_bytes image n = picked (λ (d : Out). bytes d ≡ []) (leb (length image) n) _ _ (λ h. refl) (λ h. refl)

-- a writing that has to come to the end of its image: the first of the two passes, on an output z, tells what it comes to
module _ (image : List ℕ) (d : Out) (room : ℕ) (z : List ℕ) where
  pub whole_halt : {a p : ℕ} {o : List ℕ} → poured (denied a p) o ≡ pour d 0 z → settled (whole image d) room ≡ unwritten a
  whole_halt e = settled_halt (whole image d) 0 z room (sym (pour_halt d _ 0 z e))

  module _ {c : Cursor} {n : ℕ} {o : List ℕ} (e : poured (went_to c n) o ≡ pour d 0 z) where
    checked : pour (whole image d) 0 z ≡ pour (pick (leb (length image) c.at) (end c.at) (stop 6 c.at)) n o
    checked = pour_then d _ 0 z e

    pub whole_past : c.at < length image → settled (whole image d) room ≡ unwritten 6
    whole_past h =
        settled_halt (whole image d) 0 z room
        (sym (checked ∙ ap (λ (x : Out). pour x n o) (pick_no (length image) c.at _ _ h) ∙ pour_stop n o 6 c.at))

    module _ (h : length image ≤ c.at) where
      through : poured (went_to c n) o ≡ pour (whole image d) 0 z
      through = sym (checked ∙ ap (λ (x : Out). pour x n o) (pick_yes (length image) c.at _ _ h) ∙ pour_end n o c.at)

      pub whole_over : limit.bytes < n → settled (whole image d) room ≡ unwritten 1
      whole_over g = settled_over (whole image d) z through room g

      pub whole_full : n ≤ limit.bytes → room < n → settled (whole image d) room ≡ unwritten 4
      whole_full g f = settled_full (whole image d) z through room g f

      pub whole_fits : n ≤ limit.bytes → n ≤ room → settled (whole image d) room ≡ written (bytes d)
      whole_fits g f = settled_fits (whole image d) z through room g f ∙ ap written (bytes_bind d _ (check_bytes image))

      pub whole_size : n ≡ length (bytes d)
      whole_size = let w = went d 0 z e in omega (arith, w.size)

module _ (image text : List ℕ) (room : ℕ) where
  whole_write : settled (whole image (value_in image text 0 0)) room ≡ write_of image text room
  whole_write =
      let P : Written → Type 0 = λ (x : Written). settled (whole image (value_in image text 0 0)) room ≡ x in
      let none : value_in image text 0 0 ≡ stop 1 0 → P (unwritten 1) = λ e. rw e (settled_stop 1 0 room) in
      picked P (leb (length text) limit.bytes) _ _
      (λ t.
      let h = leb-true (length text) limit.bytes t in
      picked P (leb (length image) limit.image) _ _
      (λ i. rw (in_value image text 0 0 h (leb-true (length image) limit.image i) (omega arith) (omega arith)))
      (λ i. none (in_over image text 0 0 (λ g f p n. omega (arith, leb-false (length image) limit.image i)))))
      (λ t. none (in_over image text 0 0 (λ g f p n. omega (arith, leb-false (length text) limit.bytes t))))

  -- the first of the two passes, on an output z, tells what the call comes to
  module _ (z : List ℕ) where
    pub write_halt : {a p : ℕ} {o : List ℕ} → poured (denied a p) o ≡ pour (value_in image text 0 0) 0 z → write_of image text room ≡ unwritten a
    write_halt e = sym whole_write ∙ whole_halt image (value_in image text 0 0) room z e

    module _ {c : Cursor} {n : ℕ} {o : List ℕ} (e : poured (went_to c n) o ≡ pour (value_in image text 0 0) 0 z) where
      pub write_past : c.at < length image → write_of image text room ≡ unwritten 6
      write_past h = sym whole_write ∙ whole_past image (value_in image text 0 0) room z e h

      module _ (h : length image ≤ c.at) where
        pub write_over : limit.bytes < n → write_of image text room ≡ unwritten 1
        write_over g = sym whole_write ∙ whole_over image (value_in image text 0 0) room z e h g

        pub write_full : n ≤ limit.bytes → room < n → write_of image text room ≡ unwritten 4
        write_full g f = sym whole_write ∙ whole_full image (value_in image text 0 0) room z e h g f

        pub write_fits : n ≤ limit.bytes → n ≤ room → write_of image text room ≡ written (bytes (value_in image text 0 0))
        write_fits g f = sym whole_write ∙ whole_fits image (value_in image text 0 0) room z e h g f

        pub write_size : n ≡ length (bytes (value_in image text 0 0))
        write_size = whole_size image (value_in image text 0 0) room z e h
