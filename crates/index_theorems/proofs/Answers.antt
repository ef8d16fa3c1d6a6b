-- What the public call answers, whatever the image is.
use Rattle.std.specs.Prelude.{◌*◌, ◌/◌, ◌≤◌, ◌<◌, ◌≡◌, ◌⊎◌, ◌≢◌, ◌↔◌, Some, None}
use Rattle.wire.proofs.Kit.{ℕ, refl, sym, ap, ◌∙◌, List, [], Bool, true, false, inl, inr, ⊎_elim, arith, leb, length, le-leb, leb-true}
use Rattle.wire.proofs.Kit.{leb-false, eqb}
use Rattle.wire.specs.Choice.{pick}
use Rattle.wire.specs.Limit as limit
use Rattle.wire.specs.Number.{Bytes}
use Rattle.wire.proofs.Laws.{picked}
use Rattle.image.specs.Kind as kind
use Rattle.image.specs.Record.{layout_of}
use Rattle.image.specs.Taking.{record_at, Taken}
use Rattle.image.specs.Out.{Out, end, stop, put, bytes as bytes_out, Written, unwritten, ended, settled}
use Rattle.amf0.specs.Writing as amf0
use Rattle.lso.specs.Writing as lso
use Rattle.index.specs.declared.mark.Mark.{Mark}
use Rattle.index.specs.Mark.{rows}
use Rattle.index.specs.Index.{Indexed, unindexed, keyed, unless, indexed, index_of, keys_of}
use Rattle.index.proofs.Rows.{length_rows_at}
use Rattle.index_theorems.proofs.Refusals.{answer_of}
use Rattle.index_theorems.proofs.FileRefusals.{writing_in, writing_of, refused_as_written}
use Rattle.index_theorems.proofs.Room.{Rowed, counted, keys_rowed}

-- ---- a walk that is refused, or not

unless_ended : {P : ℕ → ℕ → Type 0} {k : ℕ} {d : Out} (x : Indexed) → Rowed P k d → answer_of d ≡ 0 → unless d x ≡ x
unfolding unless answer_of
unless_ended x (Rowed.ends p) e = refl
unless_ended x Rowed.deep e = absurd (omega arith)
unless_ended x Rowed.bad e = absurd (omega arith)
unless_ended x (Rowed.one b r) e = unless_ended x r e

unless_stopped : (d : Out) (x : Indexed) → answer_of d ≢ 0 → unless d x ≡ unindexed (answer_of d)
unfolding unless answer_of
unless_stopped (end n) x ne = absurd (ne refl)
unless_stopped (stop a p) x ne = refl
unless_stopped (put b d) x ne = unless_stopped d x ne

-- ---- the keys of an image, in the order of reading

module _ (image text : List ℕ) where
  abbrev pub all_keys : List Mark
  all_keys = rows (length (bytes_out (keys_of image text)) / 13) (bytes_out (keys_of image text))

  -- their marks are all that the walk puts out
  pub all_size : 13 * length all_keys ≡ length (bytes_out (keys_of image text))
  all_size =
      let c = counted (keys_rowed image text) in
      let l = length_rows_at (length (bytes_out (keys_of image text)) / 13) 0 (bytes_out (keys_of image text)) in
      omega (arith, c.size, l)

  pub keys_answers : (answer_of (keys_of image text) ≡ 0) ⊎ ((answer_of (keys_of image text) ≡ 5) ⊎ (answer_of (keys_of image text) ≡ 6))
  keys_answers = (counted (keys_rowed image text)).refusal

  -- What the call comes to in a room, where a walk over the image is refused with an answer, or ends, which is 0: 1 for a size; else 5 or 6, where the walk is
  -- refused; else 4, where the marks of the keys have no room; else the keys.
  pub data Outcome (room walk : ℕ) : Indexed → Type 0 where
    over : (limit.bytes < length text) ⊎ (limit.image < length image) → Outcome room walk (unindexed 1)
    refused : length text ≤ limit.bytes → length image ≤ limit.image → (walk ≡ 5) ⊎ (walk ≡ 6) → Outcome room walk (unindexed walk)
    no_room : length text ≤ limit.bytes → length image ≤ limit.image → walk ≡ 0 → room < 13 * length all_keys → Outcome room walk (unindexed 4)
    made : length text ≤ limit.bytes → length image ≤ limit.image → walk ≡ 0 → 13 * length all_keys ≤ room
        → Outcome room walk (record { answer = 0; keys = all_keys })

  -- the walk over the keys themselves
  pub index_outcome : (room : ℕ) → Outcome room (answer_of (keys_of image text)) (index_of image text room)
  index_outcome room =
      picked (Outcome room (answer_of (keys_of image text))) (leb (length text) limit.bytes) _ _
      (λ t. picked (Outcome room (answer_of (keys_of image text))) (leb (length image) limit.image) _ _
      (λ i. go (leb-true _ _ t) (leb-true _ _ i) keys_answers)
      (λ i. Outcome.over (inr (leb-false _ _ i))))
      (λ t. Outcome.over (inl (leb-false _ _ t)))
    where
      go : length text ≤ limit.bytes → length image ≤ limit.image → (answer_of (keys_of image text) ≡ 0) ⊎ ((answer_of (keys_of image text) ≡ 5) ⊎ (answer_of (keys_of image text) ≡ 6))
          → Outcome room (answer_of (keys_of image text)) (indexed (keys_of image text) room)
      go t i (inl e) =
          rw (unless_ended (pick (leb (length (bytes_out (keys_of image text))) room) (keyed (bytes_out (keys_of image text))) (unindexed 4)) (keys_rowed image text) e)
          (picked (Outcome room (answer_of (keys_of image text))) (leb (length (bytes_out (keys_of image text))) room) _ _
          (λ l. let b = leb-true (length (bytes_out (keys_of image text))) room l in Outcome.made t i e (omega (arith, all_size)))
          (λ l. let b = leb-false (length (bytes_out (keys_of image text))) room l in Outcome.no_room t i e (omega (arith, all_size))))
      go t i (inr e) = rw (unless_stopped (keys_of image text) _ (λ z. ⊎_elim (λ f. omega arith) (λ f. omega arith) e)) (Outcome.refused t i e)

-- ---- the answers

-- The call is refused with 1 for a size; else, as the writing of the image is, with 5 or 6; else with 4, exactly where thirteen bytes for each key are over the
-- room.
pub index_refusals : (image text : List ℕ) (room : ℕ) → Bytes image → Outcome image text room (answer_of (writing_of image text)) (index_of image text room)
index_refusals image text room known = rw (refused_as_written image text known) at (index_outcome image text room)

-- The answer is one of 0, 1, 4, 5 and 6.
pub index_answers : (image text : List ℕ) (room : ℕ)
    → let a = (index_of image text room).answer in (a ≡ 0) ⊎ ((a ≡ 1) ⊎ ((a ≡ 4) ⊎ ((a ≡ 5) ⊎ (a ≡ 6))))
index_answers image text room = go (index_of image text room) (index_outcome image text room)
  where
    go : (w : Indexed) → Outcome image text room (answer_of (keys_of image text)) w
        → (w.answer ≡ 0) ⊎ ((w.answer ≡ 1) ⊎ ((w.answer ≡ 4) ⊎ ((w.answer ≡ 5) ⊎ (w.answer ≡ 6))))
    go w (Outcome.over h) = inr (inl refl)
    go w (Outcome.refused t i e) = inr (inr (inr e))
    go w (Outcome.no_room t i e l) = inr (inr (inl refl))
    go w (Outcome.made t i e l) = inl refl

-- A refusal has no keys.
pub index_refused : (image text : List ℕ) (room : ℕ) → (index_of image text room).answer ≢ 0 → (index_of image text room).keys ≡ []
index_refused image text room = go (index_of image text room) (index_outcome image text room)
  where
    go : (w : Indexed) → Outcome image text room (answer_of (keys_of image text)) w → w.answer ≢ 0 → w.keys ≡ []
    go w (Outcome.over h) ne = refl
    go w (Outcome.refused t i e) ne = refl
    go w (Outcome.no_room t i e l) ne = refl
    go w (Outcome.made t i e l) ne = absurd (ne refl)

-- ---- the public writers

-- what the public writer of files comes to, where the first record is a file's, else what that of values does
abbrev pub writes_in : (image text : List ℕ) → ℕ → Taken → Written
writes_in image text out (Some x) = pick (eqb (layout_of x.0).kind kind.lso) (lso.write_of image text out) (amf0.write_of image text out)
writes_in image text out None = amf0.write_of image text out

unfoldable pub writes_of : (image text : List ℕ) → ℕ → Written
writes_of image text out = writes_in image text out (record_at image 0)

-- within the sizes, it is their walk in the room
writes_walk : (image text : List ℕ) (out : ℕ) → writes_of image text out
    ≡ pick (leb (length text) limit.bytes) (pick (leb (length image) limit.image) (settled (writing_of image text) out) (unwritten 1)) (unwritten 1)
unfolding writes_of writing_of
writes_walk image text out = go (record_at image 0)
  where
    by : (t : Bool) → pick t (lso.write_of image text out) (amf0.write_of image text out)
        ≡ pick (leb (length text) limit.bytes)
        (pick (leb (length image) limit.image)
        (settled (pick t (lso.file lso.length_of image text) (amf0.whole image (amf0.value limit.levels image text 0))) out) (unwritten 1)) (unwritten 1)
    by true = refl
    by false = refl

    go : (t : Taken) → writes_in image text out t
        ≡ pick (leb (length text) limit.bytes) (pick (leb (length image) limit.image) (settled (writing_in image text t) out) (unwritten 1)) (unwritten 1)
    go (Some x) = by (eqb (layout_of x.0).kind kind.lso)
    go None = refl

-- an answer for what the image holds
abbrev pub Own : ℕ → Type 0
Own a = (a ≡ 5) ⊎ (a ≡ 6)

ended_own : (d : Out) (b : List ℕ) (out a : ℕ) → Own a → (ended d b out).writing.answer ≡ a ↔ answer_of d ≡ a
unfolding ended answer_of
ended_own (end n) b out a o = (
  picked (λ (w : Written). w.writing.answer ≡ a → 0 ≡ a) (leb (length b) limit.bytes) _ _
      (λ _. picked (λ (w : Written). w.writing.answer ≡ a → 0 ≡ a) (leb (length b) out) _ _ (λ _ e. e) (λ _ e. absurd (⊎_elim (λ f. omega arith) (λ f. omega arith) o)))
      (λ _ e. absurd (⊎_elim (λ f. omega arith) (λ f. omega arith) o)),
  λ e. absurd (⊎_elim (λ f. omega arith) (λ f. omega arith) o),
)
ended_own (stop c p) b out a o = (λ e. e, λ e. e)
ended_own (put x d) b out a o = ended_own d b out a o

-- within the sizes, a walk stops with this answer
pub record Stopped (image text : List ℕ) (walk a : ℕ) : Type 0 where
  pub text_size : length text ≤ limit.bytes
  pub image_size : length image ≤ limit.image
  pub same : walk ≡ a

pub writes_own : (image text : List ℕ) (out a : ℕ) → Own a → (writes_of image text out).writing.answer ≡ a ↔ Stopped image text (answer_of (writing_of image text)) a
unfolding settled
writes_own image text out a o = (
  λ e. to (rw (writes_walk image text out) at e),
  λ s. rw (writes_walk image text out, le-leb (length text) limit.bytes s.text_size, le-leb (length image) limit.image s.image_size)
      ((ended_own (writing_of image text) (bytes_out (writing_of image text)) out a o).1 s.same),
)
  where
    not_one : (unwritten 1).writing.answer ≡ a → Stopped image text (answer_of (writing_of image text)) a
    not_one e = absurd (⊎_elim (λ f. omega arith) (λ f. omega arith) o)

    to : (pick (leb (length text) limit.bytes) (pick (leb (length image) limit.image) (settled (writing_of image text) out) (unwritten 1)) (unwritten 1)).writing.answer ≡ a
        → Stopped image text (answer_of (writing_of image text)) a
    to =
        picked (λ (w : Written). w.writing.answer ≡ a → Stopped image text (answer_of (writing_of image text)) a) (leb (length text) limit.bytes) _ _
        (λ t. picked (λ (w : Written). w.writing.answer ≡ a → Stopped image text (answer_of (writing_of image text)) a) (leb (length image) limit.image) _ _
        (λ i e. record {
          text_size = leb-true _ _ t;
          image_size = leb-true _ _ i;
          same = (ended_own (writing_of image text) (bytes_out (writing_of image text)) out a o).0 e;
        })
        (λ i. not_one))
        (λ t. not_one)

index_own : (image text : List ℕ) (room a : ℕ) → Own a → (index_of image text room).answer ≡ a ↔ Stopped image text (answer_of (keys_of image text)) a
index_own image text room a o = (go (index_of image text room) (index_outcome image text room), back (index_of image text room) (index_outcome image text room))
  where
    go : (w : Indexed) → Outcome image text room (answer_of (keys_of image text)) w → w.answer ≡ a → Stopped image text (answer_of (keys_of image text)) a
    go w (Outcome.over h) z = absurd (⊎_elim (λ f. omega arith) (λ f. omega arith) o)
    go w (Outcome.refused t i e) z = record { text_size = t; image_size = i; same = z }
    go w (Outcome.no_room t i e l) z = absurd (⊎_elim (λ f. omega arith) (λ f. omega arith) o)
    go w (Outcome.made t i e l) z = absurd (⊎_elim (λ f. omega arith) (λ f. omega arith) o)

    back : (w : Indexed) → Outcome image text room (answer_of (keys_of image text)) w → Stopped image text (answer_of (keys_of image text)) a → w.answer ≡ a
    back w (Outcome.over h) s = absurd (⊎_elim (λ f. omega (arith, s.text_size)) (λ f. omega (arith, s.image_size)) h)
    back w (Outcome.refused t i e) s = s.same
    back w (Outcome.no_room t i e l) s = absurd (⊎_elim (λ f. omega (arith, s.same)) (λ f. omega (arith, s.same)) o)
    back w (Outcome.made t i e l) s = absurd (⊎_elim (λ f. omega (arith, s.same)) (λ f. omega (arith, s.same)) o)

-- Whatever the image is, its index is refused with 5 or with 6 exactly where its writing is, in any rooms.
pub index_as_written : (image text : List ℕ) (room out a : ℕ) → Bytes image → Own a
    → (index_of image text room).answer ≡ a ↔ (writes_of image text out).writing.answer ≡ a
index_as_written image text room out a known o =
    let e = refused_as_written image text known in (
      λ z. (writes_own image text out a o).1 (rw e at ((index_own image text room a o).0 z)),
      λ z. (index_own image text room a o).1 (rw (sym e) at ((writes_own image text out a o).0 z)),
    )

-- an acceptance
pub record Accepted (image text : List ℕ) (room : ℕ) (w : Indexed) : Type 0 where
  pub text_size : length text ≤ limit.bytes
  pub image_size : length image ≤ limit.image
  pub walk : answer_of (keys_of image text) ≡ 0
  pub fits : 13 * length (all_keys image text) ≤ room
  pub same : w ≡ record { answer = 0; keys = all_keys image text }

-- The call is accepted exactly where the sizes are within the limits, the walk is not refused, and thirteen bytes for each key have room.
pub index_accepted : (image text : List ℕ) (room : ℕ) → (index_of image text room).answer ≡ 0 ↔ Accepted image text room (index_of image text room)
index_accepted image text room = (go (index_of image text room) (index_outcome image text room), λ a. ap (λ (w : Indexed). w.answer) a.same)
  where
    go : (w : Indexed) → Outcome image text room (answer_of (keys_of image text)) w → w.answer ≡ 0 → Accepted image text room w
    go w (Outcome.over h) z = absurd (omega arith)
    go w (Outcome.refused t i e) z = absurd (⊎_elim (λ f. omega arith) (λ f. omega arith) e)
    go w (Outcome.no_room t i e l) z = absurd (omega arith)
    go w (Outcome.made t i e l) z = record { text_size = t; image_size = i; walk = e; fits = l; same = refl }

-- ---- the room

-- the keys of an image take no more than twice its length
pub keys_fit : (image text : List ℕ) → Bytes image → answer_of (keys_of image text) ≡ 0 → 13 * length (all_keys image text) ≤ 2 * length image
keys_fit image text known e =
    let c = counted (keys_rowed image text) in
    let p = c.ended e known in
    omega (arith, all_size image text, c.size, p.0, p.1)

-- A buffer twice as long as the image is always room enough.
pub room_enough : (image text : List ℕ) (room : ℕ) → Bytes image → 2 * length image ≤ room → (index_of image text room).answer ≢ 4
room_enough image text room known h = go (index_of image text room) (index_outcome image text room)
  where
    go : (w : Indexed) → Outcome image text room (answer_of (keys_of image text)) w → w.answer ≢ 4
    go w (Outcome.over h) z = omega arith
    go w (Outcome.refused t i e) z = ⊎_elim (λ f. omega arith) (λ f. omega arith) e
    go w (Outcome.no_room t i e l) z = omega (arith, keys_fit image text known e)
    go w (Outcome.made t i e l) z = omega arith

-- More room changes nothing.
pub more_room : (image text : List ℕ) (room more : ℕ) → room ≤ more → (index_of image text room).answer ≡ 0 → index_of image text more ≡ index_of image text room
more_room image text room more h z =
    let a = (index_accepted image text room).0 z in
    go (index_of image text more) (index_outcome image text more) a ∙ sym a.same
  where
    go : (w : Indexed) → Outcome image text more (answer_of (keys_of image text)) w → Accepted image text room (index_of image text room)
        → w ≡ record { answer = 0; keys = all_keys image text }
    go w (Outcome.over h) a = absurd (⊎_elim (λ f. omega (arith, a.text_size)) (λ f. omega (arith, a.image_size)) h)
    go w (Outcome.refused t i e) a = absurd (⊎_elim (λ f. omega (arith, a.walk)) (λ f. omega (arith, a.walk)) e)
    go w (Outcome.no_room t i e l) a = absurd (omega (arith, a.fits))
    go w (Outcome.made t i e l) a = refl

-- A refusal that is not for the room is the same in every room.
pub other_room : (image text : List ℕ) (room more : ℕ) → (index_of image text room).answer ≢ 0 → (index_of image text room).answer ≢ 4
    → index_of image text more ≡ index_of image text room
other_room image text room more = go (index_of image text room) (index_of image text more) (index_outcome image text room) (index_outcome image text more)
  where
    go : (w v : Indexed) → Outcome image text room (answer_of (keys_of image text)) w → Outcome image text more (answer_of (keys_of image text)) v
        → w.answer ≢ 0 → w.answer ≢ 4 → v ≡ w
    go w v (Outcome.over h) (Outcome.over g) n m = refl
    go w v (Outcome.over h) (Outcome.refused t i e) n m = absurd (⊎_elim (λ f. omega arith) (λ f. omega arith) h)
    go w v (Outcome.over h) (Outcome.no_room t i e l) n m = absurd (⊎_elim (λ f. omega arith) (λ f. omega arith) h)
    go w v (Outcome.over h) (Outcome.made t i e l) n m = absurd (⊎_elim (λ f. omega arith) (λ f. omega arith) h)
    go w v (Outcome.refused t i e) (Outcome.over h) n m = absurd (⊎_elim (λ f. omega arith) (λ f. omega arith) h)
    go w v (Outcome.refused t i e) (Outcome.refused u j f) n m = refl
    go w v (Outcome.refused t i e) (Outcome.no_room u j f l) n m = absurd (⊎_elim (λ q. omega arith) (λ q. omega arith) e)
    go w v (Outcome.refused t i e) (Outcome.made u j f l) n m = absurd (⊎_elim (λ q. omega arith) (λ q. omega arith) e)
    go w v (Outcome.no_room t i e l) g n m = absurd (m refl)
    go w v (Outcome.made t i e l) g n m = absurd (n refl)
