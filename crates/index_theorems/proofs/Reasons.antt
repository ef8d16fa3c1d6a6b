-- Why an index is refused, in terms of the trees and the files whose image is given: it has an index exactly where it is the image of one that is not too deep.
use Rattle.std.specs.Prelude.{◌*◌, ◌≤◌, ◌<◌, ◌≡◌, ◌∷◌, ◌++◌, ◌⊎◌, ◌≢◌, ◌↔◌, Some, None}
use Rattle.wire.proofs.Kit.{ℕ, zero, suc, refl, ap, ◌∙◌, List, [], Bool, true, false, inl, inr, ⊎_elim, arith, length}
use Rattle.wire.proofs.Kit.{eqb}
use Rattle.wire.specs.Choice.{pick}
use Rattle.wire.specs.Number.{Bytes, digits}
use Rattle.wire.specs.Limit as limit
use Rattle.image.specs.declared.record.Record.{Record}
use Rattle.image.specs.declared.record.Record.TheVariants as R
use Rattle.image.specs.declared.record.Layout.{Layout}
use Rattle.image.specs.Kind as kind
use Rattle.image.specs.Record.{layout_of, bytes_of, field_bytes}
use Rattle.image.specs.Taking.{record_at, Taken}
use Rattle.image.specs.Out.{Out, Written}
use Rattle.image.proofs.Laws.{small}
use Rattle.amf0.specs.Standard.{Sort, Tree, depth}
use Rattle.amf0.specs.Shown.{laid}
use Rattle.amf0.specs.Writing as amf0_writes
use Rattle.amf0.specs.Written as amf0
use Rattle.amf0_theorems.specs.Unwritten.{OutcomeOf}
use Rattle.amf0_theorems.proofs.Puts.{Puts}
use Rattle.amf0_theorems.proofs.WriteOutcome.{image_puts}
use Rattle.amf0_theorems.proofs.WriteReasons as amf0_reasons
use Rattle.lso.specs.File.{Lso, deepest}
use Rattle.lso.specs.Writing as lso_writes
use Rattle.lso.specs.Writing.{length_of}
use Rattle.lso.specs.Written as lso
use Rattle.lso_theorems.proofs.Puts.{file_puts}
use Rattle.lso_theorems.proofs.WriteReasons as lso_reasons
use Rattle.index.specs.Index.{Indexed, unindexed, index_of, keys_of}
use Rattle.index_theorems.proofs.Refusals.{answer_of, refused_as_value}
use Rattle.index_theorems.proofs.FileRefusals.{refused_as_written, refused_as_file}
use Rattle.index_theorems.proofs.Answers.{all_keys, Outcome, index_outcome, index_accepted, room_enough, Own, writes_in, writes_of, writes_own}

-- ---- an image is a row of bytes

both : (x y : List ℕ) → Bytes x → Bytes y → Bytes (x ++ y)
both [] y a b = b
both (c ∷ x) y a b = (a.0, both x y a.1 b)

number : (w n : ℕ) → Bytes (digits w n)
number zero n = tt
number (suc w) n = (omega arith, number w n)

of_record : (r : Record) → Bytes (bytes_of r)
unfolding bytes_of
of_record r =
    let l : Layout = layout_of r in (
      (small r).0,
      both (field_bytes l.a) _ (number l.a.width l.a.number)
          (both (field_bytes l.b) _ (number l.b.width l.b.number)
          (both (field_bytes l.c) (field_bytes l.d) (number l.c.width l.c.number) (number l.d.width l.d.number))),
    )

pub of_records : (rs : List Record) → Bytes (laid rs)
of_records [] = tt
of_records (r ∷ rs) = both (bytes_of r) (laid rs) (of_record r) (of_records rs)

-- ---- the image of a tree, or of a file

puts_answer : {D : Type 0} {d : Out} {x : List ℕ} {n : ℕ} → Puts D d x n → (answer_of d ≡ 0) ⊎ ((answer_of d ≡ 5) × D)
unfolding answer_of
puts_answer Puts.done = inl refl
puts_answer (Puts.more p) = puts_answer p
puts_answer (Puts.shut e) = inr (refl, e)

-- an answer of 0 or of 5 is not 6
not_six : {D : Type 0} {a : ℕ} → (a ≡ 0) ⊎ ((a ≡ 5) × D) → a ≢ 6
not_six (inl e) z = omega arith
not_six (inr e) z = omega (arith, e.0)

-- the walk over it ends, or stops with 5, where it is too deep
tree_walk : {image s : List ℕ} {t : Tree Sort.value} → amf0.Images s t image → (answer_of (keys_of image s) ≡ 0) ⊎ ((answer_of (keys_of image s) ≡ 5) × (limit.levels < depth t))
tree_walk {image} {s} {t} m =
    let b : Bytes image = rw m.lies (of_records m.records) in
    let p = puts_answer (image_puts {D = limit.levels < depth t} limit.levels m λ l. l) in
    rw (refused_as_value image s b (not_six p)) p

file_walk : {image s : List ℕ} {f : Lso} → lso.Images s f image
    → (answer_of (keys_of image s) ≡ 0) ⊎ ((answer_of (keys_of image s) ≡ 5) × (limit.levels < deepest f.body))
file_walk {image} {s} {f} m =
    let b : Bytes image = rw m.lies (of_records (R.Lso f.stored m.place (length f.name) ∷ m.records)) in
    let p = puts_answer (file_puts s image m {D = limit.levels < deepest f.body} λ l. l) in
    rw (refused_as_file image s b length_of (not_six p)) p

-- Within the limits, it is the image of a tree or of a file, at most as deep as the limit.
pub data Meant (image text : List ℕ) : Type 0 where
  of_tree : {t : Tree Sort.value} → amf0.Writable image text t → Meant image text
  of_file : {f : Lso} → lso.Writable image text f → Meant image text

-- its sizes, and that its walk ends
pub record Indexable (image text : List ℕ) : Type 0 where
  pub text_size : length text ≤ limit.bytes
  pub image_size : length image ≤ limit.image
  pub walk : answer_of (keys_of image text) ≡ 0

pub indexable : {image text : List ℕ} → Meant image text → Indexable image text
indexable (Meant.of_tree w) =
    record { text_size = w.text_size; image_size = w.image_size; walk = ⊎_elim (λ e. e) (λ e. absurd (omega (arith, e.1, w.deep))) (tree_walk w.images) }
indexable (Meant.of_file w) =
    record { text_size = w.text_size; image_size = w.image_size; walk = ⊎_elim (λ e. e) (λ e. absurd (omega (arith, e.1, w.deep))) (file_walk w.images) }

-- and the other way, by what the writers answer
pub meant : {image text : List ℕ} → Bytes image → Indexable image text → Meant image text
unfolding writes_of
meant {image} {text} known x = go (record_at image 0) (none 5 (inl refl)) (none 6 (inr refl))
  where
    none : (a : ℕ) → Own a → (writes_of image text 0).writing.answer ≢ a
    none a o z = ⊎_elim (λ e. omega (arith, walks, x.walk)) (λ e. omega (arith, walks, x.walk)) o
      where
        walks : answer_of (keys_of image text) ≡ a
        walks = refused_as_written image text known ∙ ((writes_own image text 0 a o).0 z).same

    -- where a write is not refused with 5 or 6, the image holds something of the kind that is asked for
    held : {A : Type 0} {Holds : A → Type 0} {put : A → List ℕ} {Refused : ℕ → ℕ → Type 0} → ((y : A) → Holds y → Meant image text) → (w : Written)
        → OutcomeOf Holds put Refused image text 0 w → w.writing.answer ≢ 5 → w.writing.answer ≢ 6 → Meant image text
    held f w (OutcomeOf.text_over h) a b = absurd (omega (arith, x.text_size))
    held f w (OutcomeOf.image_over h) a b = absurd (omega (arith, x.image_size))
    held f w (OutcomeOf.wrong h i r) a b = absurd (b refl)
    held f w (OutcomeOf.too_deep h i r) a b = absurd (a refl)
    held f w (OutcomeOf.output_over {x = y} m h) a b = f y m
    held f w (OutcomeOf.no_room {x = y} m h i) a b = f y m
    held f w (OutcomeOf.put_out {x = y} m h i) a b = f y m

    tree : (amf0_writes.write_of image text 0).writing.answer ≢ 5 → (amf0_writes.write_of image text 0).writing.answer ≢ 6 → Meant image text
    tree = held (λ t m. Meant.of_tree m) (amf0_writes.write_of image text 0) (amf0_reasons.reasons image text 0 known)

    by : (t : Bool) → (pick t (lso_writes.write_of image text 0) (amf0_writes.write_of image text 0)).writing.answer ≢ 5
        → (pick t (lso_writes.write_of image text 0) (amf0_writes.write_of image text 0)).writing.answer ≢ 6 → Meant image text
    by true = held (λ f m. Meant.of_file m) (lso_writes.write_of image text 0) (lso_reasons.reasons image text 0 known)
    by false = tree

    go : (t : Taken) → (writes_in image text 0 t).writing.answer ≢ 5 → (writes_in image text 0 t).writing.answer ≢ 6 → Meant image text
    go (Some x) = by (eqb (layout_of x.0).kind kind.lso)
    go None = tree

-- ---- the call

-- What the public call can come to in a room, and when.
pub data Reasons (image text : List ℕ) (room : ℕ) : Indexed → Type 0 where
  text_over : limit.bytes < length text → Reasons image text room (unindexed 1)
  image_over : limit.image < length image → Reasons image text room (unindexed 1)
  -- the image is that of no tree and of no file
  no_tree : length text ≤ limit.bytes → length image ≤ limit.image → ((t : Tree Sort.value) → amf0.Images text t image → ⊥) → ((f : Lso) → lso.Images text f image → ⊥)
      → Reasons image text room (unindexed 6)
  -- the image is that of a tree or of a file that is too deep, or of none
  too_deep : length text ≤ limit.bytes → length image ≤ limit.image → ((t : Tree Sort.value) → amf0.Images text t image → limit.levels < depth t)
      → ((f : Lso) → lso.Images text f image → limit.levels < deepest f.body) → Reasons image text room (unindexed 5)
  no_room : Meant image text → room < 13 * length (all_keys image text) → Reasons image text room (unindexed 4)
  made : Meant image text → 13 * length (all_keys image text) ≤ room → Reasons image text room (record { answer = 0; keys = all_keys image text })

-- A call is refused for a size, because the image is that of no tree and no file or of one too deep, or for the room; else the index is of all its keys.
pub index_reasons : (image text : List ℕ) (room : ℕ) → Bytes image → Reasons image text room (index_of image text room)
index_reasons image text room known = go (index_of image text room) (index_outcome image text room)
  where
    stopped : length text ≤ limit.bytes → length image ≤ limit.image → Own (answer_of (keys_of image text)) → Reasons image text room (unindexed (answer_of (keys_of image text)))
    stopped t i (inl e) =
        rw e
        (Reasons.too_deep t i (λ u m. ⊎_elim (λ z. absurd (omega arith)) (λ z. z.1) (tree_walk m)) (λ f m. ⊎_elim (λ z. absurd (omega arith)) (λ z. z.1) (file_walk m)))
    stopped t i (inr e) =
        rw e
        (Reasons.no_tree t i (λ u m. not_six (tree_walk m) e) (λ f m. not_six (file_walk m) e))

    go : (w : Indexed) → Outcome image text room (answer_of (keys_of image text)) w → Reasons image text room w
    go w (Outcome.over (inl h)) = Reasons.text_over h
    go w (Outcome.over (inr h)) = Reasons.image_over h
    go w (Outcome.refused t i e) = stopped t i e
    go w (Outcome.no_room t i e l) = Reasons.no_room (meant known (record { text_size = t; image_size = i; walk = e })) l
    go w (Outcome.made t i e l) = Reasons.made (meant known (record { text_size = t; image_size = i; walk = e })) l

-- The index of an image is made where it has room, and refused with 4 where not: in twice the image's length it has.
pub record Indexes (image text : List ℕ) (room : ℕ) : Type 0 where
  pub made : 13 * length (all_keys image text) ≤ room → index_of image text room ≡ record { answer = 0; keys = all_keys image text }
  pub full : room < 13 * length (all_keys image text) → index_of image text room ≡ unindexed 4
  pub enough : 2 * length image ≤ room → (index_of image text room).answer ≡ 0
  pub answers : ((index_of image text room).answer ≡ 0) ⊎ ((index_of image text room).answer ≡ 4)

-- So it is for the image of a tree or of a file.
pub meant_indexes : (image text : List ℕ) (room : ℕ) → Bytes image → Meant image text → Indexes image text room
meant_indexes image text room known y = go (index_of image text room) refl (index_outcome image text room) (indexable y)
  where
    go : (w : Indexed) → index_of image text room ≡ w → Outcome image text room (answer_of (keys_of image text)) w → Indexable image text → Indexes image text room
    go w e (Outcome.over h) x = absurd (⊎_elim (λ f. omega (arith, x.text_size)) (λ f. omega (arith, x.image_size)) h)
    go w e (Outcome.refused t i f) x = absurd (⊎_elim (λ g. omega (arith, x.walk)) (λ g. omega (arith, x.walk)) f)
    go w e (Outcome.no_room t i f l) x =
        record {
          made = λ h. absurd (omega arith);
          full = λ h. e;
          enough = λ h. absurd (room_enough image text room known h (ap (λ (y : Indexed). y.answer) e));
          answers = inr (ap (λ (y : Indexed). y.answer) e);
        }
    go w e (Outcome.made t i f l) x =
        let z = ap (λ (y : Indexed). y.answer) e in
        record { made = λ h. e; full = λ h. absurd (omega arith); enough = λ h. z; answers = inl z }

-- Given room, an image has an index exactly where it is that of a tree or of a file.
pub index_means : (image text : List ℕ) (room : ℕ) → Bytes image → 2 * length image ≤ room → (index_of image text room).answer ≡ 0 ↔ Meant image text
index_means image text room known h = (
  λ z. let a = (index_accepted image text room).0 z in meant known (record { text_size = a.text_size; image_size = a.image_size; walk = a.walk }),
  λ y. (meant_indexes image text room known y).enough h,
)
