-- What the public write comes to: a refusal is 5 or 6, or for a size or the room.
use Rattle.std.specs.Prelude.{◌+◌, ◌≤◌, ◌<◌, ◌≡◌, ◌↔◌, ◌⊎◌, Some, None}
use Rattle.wire.proofs.Kit.{ℕ, zero, suc, refl, sym, ap, ◌∙◌, inl, inr, List, arith, length, leb, leb-true, leb-false}
use Rattle.wire.specs.Choice.{pick}
use Rattle.wire.specs.Number.{Bytes}
use Rattle.wire.specs.Limit as limit
use Rattle.wire.proofs.Laws.{pick_yes, picked}
use Rattle.image.specs.declared.record.Layout.{Layout}
use Rattle.image.specs.declared.record.Record.{Record}
use Rattle.image.specs.declared.writing.Row.{Row}
use Rattle.image.specs.Taking.{record_at, Taken}
use Rattle.image.specs.Out.{Out, end, stop, put, ◌>>=◌, row, row_bytes, named_of, bytes, ended, settled, sized, Written, written, unwritten}
use Rattle.amf0.specs.declared.write.Rest.{Rest}
use Rattle.amf0.specs.declared.write.Rest.TheVariants.{Nothing, Pairs, Dense, Values}
use Rattle.amf0.specs.Shape.{Shape}
use Rattle.amf0.specs.Shape as S
use Rattle.amf0.specs.Standard.{Sort, Tree, depth}
use Rattle.amf0.specs.Writing.{shape_of, value_at, taken, asked, valued, paired, items, pairs, dense, rest, value, top_value, whole, write_of}
use Rattle.amf0.specs.Written.{write, Images, Writable}
use Rattle.amf0.proofs.Putting.{asked_both}
use Rattle.amf0_theorems.specs.Unwritten.{Stops, Refused, Outcome, OutcomeOf}
use Rattle.amf0_theorems.proofs.Puts.{Puts}
use Rattle.amf0_theorems.proofs.WriteOutcome.{puts_bytes, image_puts, sized_written}
use Rattle.amf0_theorems.proofs.WriteSound.{Ends, image_of}
use Rattle.amf0_theorems.proofs.WriteRefusal.{refused_by}
use Rattle.amf0_theorems.proofs.WriteRefusing.{refuses_by}
use Rattle.amf0_theorems.proofs.Settled.{Settled}

-- ---- a refusal's answer

abbrev pub Either : ℕ → Type 0
Either a = (a ≡ 5) ⊎ (a ≡ 6)

-- a refusal is 5 or 6
abbrev pub Refuses : Out → Type 0
Refuses (end n) = Unit {0}
Refuses (stop a p) = Either a
Refuses (put b d) = Refuses d

pub six : Either 6
six = inr refl

pub bind_refuses : (d : Out) (k : ℕ → Out) → Refuses d → ((n : ℕ) → Refuses (k n)) → Refuses (d >>= k)
bind_refuses (end n) k h g = g n
bind_refuses (stop a p) k h g = h
bind_refuses (put b d) k h g = bind_refuses d k h g

pub taken_refuses : (at : ℕ) (t : Taken) (k : Record → ℕ → Out) → ((r : Record) (q : ℕ) → Refuses (k r q)) → Refuses (taken at t k)
taken_refuses at (Some x) k g = g x.0 x.1.at
taken_refuses at None k g = six

pub asked_refuses : (image : List ℕ) (due at : ℕ) (k : Layout → ℕ → Out) → ((l : Layout) (q : ℕ) → Refuses (k l q)) → Refuses (asked image due at k)
asked_refuses image due at k g = asked_both image due at (λ x y. Refuses x) k k six g

valued_refuses : (at : ℕ) (h : Shape) (k : Row → Rest → Out) → ((w : Row) (f : Rest) → Refuses (k w f)) → Refuses (valued at h k)
valued_refuses at (S.Value w f) k g = g w f
valued_refuses at (S.Key w) k g = six
valued_refuses at (S.End w) k g = six
valued_refuses at S.Other k g = six

paired_refuses : (at : ℕ) (h : Shape) (k l : Row → Out) → ((w : Row) → Refuses (k w)) → ((w : Row) → Refuses (l w)) → Refuses (paired at h k l)
paired_refuses at (S.Value w f) k l g i = six
paired_refuses at (S.Key w) k l g i = g w
paired_refuses at (S.End w) k l g i = i w
paired_refuses at S.Other k l g i = six

module _ (s image : List ℕ) where
  pub row_refuses : (w : Row) (at : ℕ) (d : Out) → Refuses d → Refuses (row s w at d)
  unfolding row
  row_refuses w at d h = picked Refuses (named_of s w) (put (row_bytes s w) d) (stop 6 at) (λ e. h) (λ e. six)

  module _ (v : ℕ → Out) (g : (at : ℕ) → Refuses (v at)) where
    items_refuses : (n at : ℕ) → Refuses (items v image s n at)
    unfolding items
    items_refuses zero at = tt
    items_refuses (suc n) at = bind_refuses (v at) (items v image s n) (g at) (items_refuses n)

    pairs_refuses : (fuel at : ℕ) → Refuses (pairs v image s fuel at)
    unfolding pairs
    pairs_refuses zero at = six
    pairs_refuses (suc fuel) at =
        taken_refuses at (record_at image at) _ λ r q. paired_refuses at (shape_of r) _ _
        (λ w. row_refuses w at _ (bind_refuses (v q) (pairs v image s fuel) (g q) (pairs_refuses fuel))) (λ w. row_refuses w at (end q) tt)

    dense_refuses : (fuel k at : ℕ) → Refuses (dense v image s fuel k at)
    unfolding dense
    dense_refuses zero k at = six
    dense_refuses (suc fuel) k at =
        picked Refuses (value_at image at) _ _ (λ e. bind_refuses (v at) (dense v image s fuel (k + 1)) (g at) (dense_refuses fuel (k + 1)))
        (λ e. pairs_refuses (length image) at)

    rest_refuses : (f : Rest) (at : ℕ) → Refuses (rest v image s f at)
    unfolding rest
    rest_refuses Nothing at = tt
    rest_refuses Pairs at = pairs_refuses (length image) at
    rest_refuses Dense at = dense_refuses (suc (length image)) 0 at
    rest_refuses (Values n) at = items_refuses n at

  pub value_refuses : (left at : ℕ) → Refuses (value left image s at)
  unfolding value
  value_refuses zero at = picked Either (value_at image at) 5 6 (λ e. inl refl) (λ e. inr refl)
  value_refuses (suc left) at =
      taken_refuses at (record_at image at) _ λ r q. valued_refuses at (shape_of r) _ λ w f.
      row_refuses w at _ (rest_refuses (value left image s) (value_refuses left) f q)

-- bytes past the end are 6
pub whole_refuses : (image : List ℕ) (d : Out) → Refuses d → Refuses (whole image d)
whole_refuses image d h = bind_refuses d _ h λ n. picked Refuses (leb (length image) n) (end n) (stop 6 n) (λ e. tt) (λ e. six)

-- ---- how a writing ends

-- a call that settles a writing, where the text and the image are within their limits
abbrev pub call_of : List ℕ → List ℕ → Out → ℕ → Written
call_of image text d room = pick (leb (length text) limit.bytes) (pick (leb (length image) limit.image) (settled d room) (unwritten 1)) (unwritten 1)

pub ended_either : (P : Written → Type 0) (d : Out) (b : List ℕ) (room : ℕ) → Refuses d → ((n : ℕ) → Ends d n → P (sized b room))
    → ((p : ℕ) → Stops d 5 p → P (unwritten 5)) → ((p : ℕ) → Stops d 6 p → P (unwritten 6)) → P (ended d b room)
unfolding ended
ended_either P (end n) b room h f g i = f n refl
ended_either P (stop a p) b room (inl e) f g i = rw e (g p (sym e, refl))
ended_either P (stop a p) b room (inr e) f g i = rw e (i p (sym e, refl))
ended_either P (put x d) b room h f g i = ended_either P d b room h f g i

-- bytes that are not refused come neither to 5 nor to 6
sized_unwritten : (b : List ℕ) (room a : ℕ) → Either a → sized b room ≡ unwritten a → ⊥
sized_unwritten b room a o e =
    let f = ap (λ (w : Written). w.writing.answer) e in
    picked (λ (w : Written). w.writing.answer ≡ a → ⊥) (leb (length b) limit.bytes) _ _
    (λ h. picked (λ (w : Written). w.writing.answer ≡ a → ⊥) (leb (length b) room) _ _ (λ i. own 0 (omega arith) o) (λ i. own 4 (omega arith) o))
    (λ h. own 1 (omega arith) o) f
  where
    own : (n : ℕ) → n ≤ 4 → Either a → n ≡ a → ⊥
    own n l (inl e) f = omega arith
    own n l (inr e) f = omega arith

-- a writing comes to 5, or to 6, exactly where it is refused so, at a place
settled_refusals : (d : Out) (room a : ℕ) → Refuses d → Either a → settled d room ≡ unwritten a ↔ (p : ℕ) × Stops d a p
unfolding settled ended
settled_refusals d room a h o = (go d (bytes d) h, λ x. back d (bytes d) x.0 x.1)
  where
    go : (d : Out) (b : List ℕ) → Refuses d → ended d b room ≡ unwritten a → (p : ℕ) × Stops d a p
    go (end n) b h e = absurd (sized_unwritten b room a o e)
    go (stop c p) b h e = (p, (sym (ap (λ (w : Written). w.writing.answer) e), refl))
    go (put x d) b h e = go d b h e

    back : (d : Out) (b : List ℕ) (p : ℕ) → Stops d a p → ended d b room ≡ unwritten a
    back (end n) b p e = absurd e
    back (stop c q) b p e = rw e.0
    back (put x d) b p e = back d b p e

-- and so does a call within the limits
pub call_refusals : (image text : List ℕ) (d : Out) (room a : ℕ) (At : ℕ → Type 0) → Refuses d → length text ≤ limit.bytes → length image ≤ limit.image → Either a
    → ((p : ℕ) → Stops d a p ↔ At p) → call_of image text d room ≡ unwritten a ↔ (p : ℕ) × At p
call_refusals image text d room a At r h i o each =
    let y = settled_refusals d room a r o in
    rw (pick_yes (length text) limit.bytes (pick (leb (length image) limit.image) (settled d room) (unwritten 1)) (unwritten 1) h, pick_yes (length image) limit.image (settled d room) (unwritten 1) i)
    (λ e. let x = y.0 e in (x.0, (each x.0).0 x.1), λ x. y.1 (x.0, (each x.0).1 x.1))

-- a writing is refused with one answer, at one place
pub stops_once : (d : Out) (a b p q : ℕ) → Stops d a p → Stops d b q → (a ≡ b) × (p ≡ q)
stops_once (end n) a b p q e f = absurd e
stops_once (stop c o) a b p q e f = (e.0 ∙ sym f.0, e.1 ∙ sym f.1)
stops_once (put x d) a b p q e f = stops_once d a b p q e f

-- the image of a tree is refused with 5 at most
pub stops_deep : {D : Type 0} {d : Out} {x : List ℕ} {n : ℕ} → Puts D d x n → (a p : ℕ) → Stops d a p → (a ≡ 5) × D
stops_deep Puts.done a p e = absurd e
stops_deep (Puts.more q) a p e = stops_deep q a p e
stops_deep (Puts.shut h) a p e = (e.0, h)

-- and so it is by what stands at a place
pub refused_image : (image s : List ℕ) (a p : ℕ) (t : Tree Sort.value) → Bytes image → Refused image s a p → Images s t image → (a ≡ 5) × (limit.levels < depth t)
refused_image image s a p t bs x m = stops_deep (image_puts {D = limit.levels < depth t} limit.levels m (λ l. l)) a p (refuses_by s image bs a p x)

-- ---- the call

module _ (image s : List ℕ) (room : ℕ) where
  pub sized_either : (P : Written → Type 0) (b : List ℕ) → (limit.bytes < length b → P (unwritten 1))
      → (length b ≤ limit.bytes → room < length b → P (unwritten 4)) → (length b ≤ limit.bytes → length b ≤ room → P (written b)) → P (sized b room)
  sized_either P b f g h =
      picked P (leb (length b) limit.bytes) _ _
      (λ i. picked P (leb (length b) room) _ _ (λ j. h (leb-true _ _ i) (leb-true _ _ j)) (λ j. g (leb-true _ _ i) (leb-false _ _ j)))
      (λ i. f (leb-false _ _ i))

  module _ (d : Out) (r : Refuses d) where
    -- it is refused for a limit, ends or is refused
    called : (P : Written → Type 0) → (limit.bytes < length s → P (unwritten 1)) → (limit.image < length image → P (unwritten 1))
        → (length s ≤ limit.bytes → length image ≤ limit.image
        → ((n : ℕ) → Ends d n → P (sized (bytes d) room)) × ((p : ℕ) → Stops d 5 p → P (unwritten 5)) × ((p : ℕ) → Stops d 6 p → P (unwritten 6)))
        → P (call_of image s d room)
    unfolding settled
    called P f g go =
        picked P (leb (length s) limit.bytes) _ _
        (λ h. picked P (leb (length image) limit.image) _ _
        (λ i. let x = go (leb-true _ _ h) (leb-true _ _ i) in ended_either P d (bytes d) room r x.0 x.1 x.2) (λ i. g (leb-false _ _ i)))
        (λ h. f (leb-false _ _ h))

    -- with no word of what is written
    answered : (P : Written → Type 0) → P (unwritten 1) → P (unwritten 4) → P (unwritten 5) → P (unwritten 6) → ((b : List ℕ) → length b ≤ room → P (written b))
        → P (call_of image s d room)
    answered P one four five six done =
        called P (λ h. one) (λ h. one) λ h i.
        (λ n e. sized_either P (bytes d) (λ j. one) (λ j k. four) (λ j k. done (bytes d) k), λ p e. five, λ p e. six)

    pub call_answers : let a = (call_of image s d room).writing.answer in (a ≡ 0) ⊎ ((a ≡ 1) ⊎ ((a ≡ 4) ⊎ ((a ≡ 5) ⊎ (a ≡ 6))))
    call_answers =
        answered (λ w. let a = w.writing.answer in (a ≡ 0) ⊎ ((a ≡ 1) ⊎ ((a ≡ 4) ⊎ ((a ≡ 5) ⊎ (a ≡ 6)))))
        (inr (inl refl)) (inr (inr (inl refl))) (inr (inr (inr (inl refl)))) (inr (inr (inr (inr refl)))) (λ b h. inl refl)

    pub call_settled : Settled room (call_of image s d room)
    call_settled =
        answered (Settled room) (Settled.refused 1 λ e. omega arith) (Settled.refused 4 λ e. omega arith) (Settled.refused 5 λ e. omega arith)
        (Settled.refused 6 λ e. omega arith) Settled.put_out

    -- where it ends, the image holds something, which is put out
    pub call_reasons : {A : Type 0} (Holds : A → Type 0) (of : A → List ℕ) (By : ℕ → ℕ → Type 0)
        → (length s ≤ limit.bytes → length image ≤ limit.image → (n : ℕ) → Ends d n → (x : A) × Holds x × (bytes d ≡ of x))
        → ((a p : ℕ) → Stops d a p → By a p) → OutcomeOf Holds of By image s room (call_of image s d room)
    call_reasons Holds of By holds by =
        let P : Written → Type 0 = OutcomeOf Holds of By image s room in
        called P OutcomeOf.text_over OutcomeOf.image_over λ h i. (
          λ n e.
              let x = holds h i n e in
              rw x.2 (sized_either P (of x.0) (OutcomeOf.output_over x.1) (OutcomeOf.no_room x.1) (OutcomeOf.put_out x.1)),
          λ p e. OutcomeOf.too_deep h i (by 5 p e),
          λ p e. OutcomeOf.wrong h i (by 6 p e),
        )

-- of the writing of a value
pub value_refusing : (image s : List ℕ) → Refuses (whole image (top_value image s 0))
value_refusing image s = whole_refuses image (top_value image s 0) (value_refuses s image limit.levels 0)

pub reasons : (image s : List ℕ) (room : ℕ) → Bytes image → Outcome image s room (write_of image s room)
reasons image s room bs =
    call_reasons image s room (whole image (top_value image s 0)) (value_refusing image s) (Writable image s) (λ t. write t) (Refused image s)
    (λ h i n e.
    let x = image_of s image bs limit.levels n e in
    (x.0, record { text_size = h; image_size = i; images = x.1; deep = x.2 }, puts_bytes (image_puts limit.levels x.1 λ l. omega (arith, x.2))))
    (refused_by s image bs)

-- ---- what a call comes to, whatever is asked for

module _ {A : Type 0} {Holds : A → Type 0} {put : A → List ℕ} {Refused : ℕ → ℕ → Type 0} {image text : List ℕ} {room : ℕ} where
  -- where it is accepted, the image holds something whose bytes are within the limit and the room
  pub holds : (w : Written) → OutcomeOf Holds put Refused image text room w → w.writing.answer ≡ 0
      → (x : A) × Holds x × (length (put x) ≤ limit.bytes) × (length (put x) ≤ room)
  holds w (OutcomeOf.text_over h) e = absurd (omega arith)
  holds w (OutcomeOf.image_over h) e = absurd (omega arith)
  holds w (OutcomeOf.wrong h i f) e = absurd (omega arith)
  holds w (OutcomeOf.too_deep h i f) e = absurd (omega arith)
  holds w (OutcomeOf.output_over m h) e = absurd (omega arith)
  holds w (OutcomeOf.no_room m h i) e = absurd (omega arith)
  holds w (OutcomeOf.put_out {x = x} m h i) e = (x, m, h, i)

  -- and exactly there, where what it holds is written as its bytes
  pub accepted : (w : Written) → OutcomeOf Holds put Refused image text room w → ((x : A) → Holds x → w ≡ sized (put x) room)
      → w.writing.answer ≡ 0 ↔ (x : A) × Holds x × (length (put x) ≤ limit.bytes) × (length (put x) ≤ room)
  accepted w o f = (holds w o, λ x. ap (λ (v : Written). v.writing.answer) (f x.0 x.1 ∙ sized_written (put x.0) room x.2 x.3))

  -- within the limits, where the image holds nothing and no record of it is wrong, a value is too deep
  pub only_deep : (w : Written) → OutcomeOf Holds put Refused image text room w → length text ≤ limit.bytes → length image ≤ limit.image
      → ((x : A) → Holds x → ⊥) → ((p : ℕ) → Refused 6 p → ⊥) → w ≡ unwritten 5
  only_deep w (OutcomeOf.text_over h) l k none right = absurd (omega arith)
  only_deep w (OutcomeOf.image_over h) l k none right = absurd (omega arith)
  only_deep w (OutcomeOf.wrong {place} h i f) l k none right = absurd (right place f)
  only_deep w (OutcomeOf.too_deep h i f) l k none right = refl
  only_deep w (OutcomeOf.output_over {x = x} m h) l k none right = absurd (none x m)
  only_deep w (OutcomeOf.no_room {x = x} m h i) l k none right = absurd (none x m)
  only_deep w (OutcomeOf.put_out {x = x} m h i) l k none right = absurd (none x m)
