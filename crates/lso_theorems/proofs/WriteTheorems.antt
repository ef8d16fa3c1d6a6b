-- The theorems on the writer of files, over what its public call comes to.
use Rattle.std.specs.Prelude.{◌-◌, ◌*◌, ◌≤◌, ◌<◌, ◌≡◌, ◌↔◌, ◌⊎◌}
use Rattle.wire.proofs.Kit.{ℕ, refl, sym, ap, ◌∙◌, inl, inr, ⊎_elim, List, map, arith, length, take, length-take-le}
use Rattle.wire.specs.Number.{Bytes}
use Rattle.wire.specs.Limit as limit
use Rattle.image.specs.Out.{Written, written, unwritten, sized}
use Rattle.image.specs.Whole.{Whole}
use Rattle.image.specs.Record.{unplaced}
use Rattle.amf0_theorems.specs.Unwritten.{Stops}
use Rattle.amf0_theorems.proofs.WriteOutcome.{sized_written, written_sized}
use Rattle.amf0_theorems.proofs.WriteRefusal.{ends_or_stops}
use Rattle.amf0_theorems.proofs.WriteReasons.{call_refusals, stops_once, call_answers, call_settled, accepted}
use Rattle.lso.specs.File.{Lso, File, deepest}
use Rattle.amf0_theorems.proofs.Settled.{Settled}
use Rattle.lso.specs.Reading.{incomplete_of, whole_of}
use Rattle.lso.specs.Writing.{file, length_of, write_of}
use Rattle.lso.specs.Written.{write_body, write, saying, SaysLength, Images, Writable, rewrite_of}
use Rattle.lso_theorems.specs.Unwritten.{Refused, Outcome}
use Rattle.lso_theorems.proofs.Puts.{file_written}
use Rattle.lso_theorems.proofs.WriteOutcome.{ReadImage, whole_image, WasRead, read_incomplete, read_whole}
use Rattle.lso_theorems.proofs.WriteReasons as because
use Rattle.lso_theorems.proofs.WriteReasons.{file_refuses, reasons}
use Rattle.lso_theorems.proofs.WriteSound.{image_of}
use Rattle.lso_theorems.proofs.WriteRefusal.{refused_by}
use Rattle.lso_theorems.proofs.WriteRefusing.{refuses_by}
use Rattle.lso_theorems.proofs.Theorems.{complete_whole}
use Rattle.lso_theorems.proofs.Files.{write_length, write_file, file_least}

-- ---- the writing and the file

-- Within the limits, the image of a file is written as that file, with the length that it then has: but 1 where that is over the limit, and 4 where it
-- has no room.
pub written_file : (image text : List ℕ) (f : Lso) (room : ℕ) → Writable image text f → write_of image text room ≡ sized (write f) room
written_file image text f room w = file_written room w

-- the file f, written as b
pub record WrittenAs (f : Lso) (b : List ℕ) : Type 0 where
  pub same : b ≡ write f
  pub file : File (saying (length b - 6) f) b
  pub small : length b ≤ limit.bytes

-- What is written of the image of a file is that file, but for the length that it says: that is the number of bytes behind the length.
pub written_is : (image text b : List ℕ) (f : Lso) (out : ℕ) → Writable image text f → write_of image text out ≡ written b → WrittenAs f b
written_is image text b f out w e =
    let g = written_sized (write f) out b (sym (file_written out w) ∙ e) in
    rw g.same (record { same = refl; file = write_file w.images w.image_size g.small; small = g.small })

-- an acceptance of all of b, which is the file f but for the length that it says, with an image of that file
pub record ReadsBack (b : List ℕ) (f : Lso) (w : Whole) : Type 0 where
  pub answer : w.reading.answer ≡ 0
  pub used : w.reading.used ≡ length b
  pub file : File (saying (length b - 6) f) b
  pub image : ReadImage b (saying (length b - 6) f) w

-- What is written reads back, given room, as the file of the image, but for the length that it says.
pub written_back : (image text b : List ℕ) (f : Lso) (out more : ℕ) → Writable image text f → write_of image text out ≡ written b → 3 * length b ≤ more
    → ReadsBack b f (whole_of b more)
written_back image text b f out more w e h =
    let x = written_is image text b f out w e in
    let c = complete_whole (saying (length b - 6) f) b more x.file w.deep x.small h in
    record { answer = c.answer; used = c.used; file = x.file; image = whole_image more x.file w.deep c.answer }

-- And to write that once more puts out the same bytes.
pub written_again : (image text b : List ℕ) (f : Lso) (out more once : ℕ) → Writable image text f → write_of image text out ≡ written b → 3 * length b ≤ more
    → length b ≤ once → rewrite_of whole_of b more once ≡ written b
written_again image text b f out more once w e h i =
    let x = written_is image text b f out w e in
    file_written once (written_back image text b f out more w e h).image.writable
    ∙ (ap (λ z. sized z once) (sym x.same) ∙ sized_written b once x.small i)

-- ---- what was read, written

-- the used bytes of s are a file, and w puts out the same file, but for the length that it says, in no more bytes
pub record Rewritten (s : List ℕ) (v : Whole) (w : Written) : Type 0 where
  pub lso : Lso
  pub before : File lso (take v.reading.used s)
  pub after : File (saying (length w.bytes - 6) lso) w.bytes
  pub answer : w.writing.answer ≡ 0
  pub count : w.writing.count ≡ length w.bytes
  pub fewer : w.writing.count ≤ v.reading.used

-- the used bytes of s are a file, all of b is the same file but for the length that it says, in no more bytes, and the images that v and w have of them
-- differ in that length and in the places of texts alone
pub record RoundTrip (s b : List ℕ) (v w : Whole) : Type 0 where
  pub lso : Lso
  pub before : File lso (take v.reading.used s)
  pub after : File (saying (length b - 6) lso) b
  pub answer : w.reading.answer ≡ 0
  pub used : w.reading.used ≡ length b
  pub fewer : length b ≤ v.reading.used
  pub image : Images s lso v.bytes
  pub image_too : Images b (saying (length b - 6) lso) w.bytes
  pub alike : map unplaced image.records ≡ map unplaced image_too.records

module _ {s : List ℕ} {v : Whole} (m : WasRead s v) where
  fewer : length (write m.lso) ≤ v.reading.used
  fewer = omega (arith, file_least m.file, length-take-le v.reading.used s m.used)

  accepts : (out : ℕ) → v.reading.used ≤ out → Rewritten s v (write_of v.bytes s out)
  accepts out h =
      let w = m.image.writable in
      let l : length (write m.lso) ≤ limit.bytes = omega (arith, fewer, m.used, w.text_size) in
      rw (file_written out w ∙ sized_written (write m.lso) out l (omega (arith, fewer)))
      (record { lso = m.lso; before = m.file; after = write_file w.images w.image_size l; answer = refl; count = refl; fewer = fewer })

  pub trips : (b : List ℕ) (out more : ℕ) → write_of v.bytes s out ≡ written b → 3 * length b ≤ more → RoundTrip s b v (whole_of b more)
  trips b out more e h =
      let w = m.image.writable in
      let r = written_back v.bytes s b m.lso out more w e h in
      record {
        lso = m.lso;
        before = m.file;
        after = r.file;
        answer = r.answer;
        used = r.used;
        fewer = rw (written_is v.bytes s b m.lso out w e).same fewer;
        image = w.images;
        image_too = r.image.writable.images;
        alike = m.image.alike ∙ sym r.image.alike;
      }

  pub repeats : (b : List ℕ) (out more once : ℕ) → write_of v.bytes s out ≡ written b → 3 * length b ≤ more → length b ≤ once
      → rewrite_of whole_of b more once ≡ written b
  repeats b out more once = written_again v.bytes s b m.lso out more once m.image.writable

-- A file that was read whole is written, where the output has as much room as the bytes used: as the same file, but for the length that it says, in no
-- more bytes.
pub accepted_write : (s : List ℕ) (room out : ℕ) → Bytes s → (whole_of s room).reading.answer ≡ 0 → (whole_of s room).reading.used ≤ out
    → Rewritten s (whole_of s room) (rewrite_of whole_of s room out)
accepted_write s room out bs e = accepts (read_whole s room bs e) out

-- So is a file that the incomplete reading used.
pub accepted_write_incomplete : (s : List ℕ) (room out : ℕ) → Bytes s → (incomplete_of s room).reading.answer ≡ 0 → (incomplete_of s room).reading.used ≤ out
    → Rewritten s (incomplete_of s room) (rewrite_of incomplete_of s room out)
accepted_write_incomplete s room out bs e = accepts (read_incomplete s room bs e) out

-- A file that was read whole and then written reads back, given room, as the same file: the same name, keys and values, texts and number bits included,
-- in no more bytes than were used. Only text places and the length that it says may differ.
pub round_trip : (s b : List ℕ) (room out more : ℕ) → Bytes s → (whole_of s room).reading.answer ≡ 0 → rewrite_of whole_of s room out ≡ written b
    → 3 * length b ≤ more → RoundTrip s b (whole_of s room) (whole_of b more)
round_trip s b room out more bs e = trips (read_whole s room bs e) b out more

-- So does a file that the incomplete reading used.
pub round_trip_incomplete : (s b : List ℕ) (room out more : ℕ) → Bytes s → (incomplete_of s room).reading.answer ≡ 0
    → rewrite_of incomplete_of s room out ≡ written b → 3 * length b ≤ more → RoundTrip s b (incomplete_of s room) (whole_of b more)
round_trip_incomplete s b room out more bs e = trips (read_incomplete s room bs e) b out more

-- To read that and write it once more changes nothing more.
pub again : (s b : List ℕ) (room out more once : ℕ) → Bytes s → (whole_of s room).reading.answer ≡ 0 → rewrite_of whole_of s room out ≡ written b
    → 3 * length b ≤ more → length b ≤ once → rewrite_of whole_of b more once ≡ written b
again s b room out more once bs e = repeats (read_whole s room bs e) b out more once

-- Nor does it after the incomplete reading.
pub again_incomplete : (s b : List ℕ) (room out more once : ℕ) → Bytes s → (incomplete_of s room).reading.answer ≡ 0
    → rewrite_of incomplete_of s room out ≡ written b → 3 * length b ≤ more → length b ≤ once → rewrite_of whole_of b more once ≡ written b
again_incomplete s b room out more once bs e = repeats (read_incomplete s room bs e) b out more once

-- ---- the answers

-- The answer is one of 0, 1, 4, 5 and 6.
pub write_answers : (image text : List ℕ) (room : ℕ)
    → let a = (write_of image text room).writing.answer in (a ≡ 0) ⊎ ((a ≡ 1) ⊎ ((a ≡ 4) ⊎ ((a ≡ 5) ⊎ (a ≡ 6))))
write_answers image text room = call_answers image text room (file length_of image text) (file_refuses text image length_of)

-- The writing is refused with an answer at a place exactly where the records before it begin a file, and what stands there is not what is due and gives
-- that answer.
pub refusal : (image text : List ℕ) (a p : ℕ) → Bytes image → Stops (file length_of image text) a p ↔ Refused image text a p
refusal image text a p bs = (refused_by text image bs length_of a p, refuses_by text image bs length_of a p)

-- An image is refused with one answer, at one place.
pub one_refusal : (image text : List ℕ) (a b p q : ℕ) → Bytes image → Refused image text a p → Refused image text b q → (a ≡ b) × (p ≡ q)
one_refusal image text a b p q bs x y =
    stops_once (file length_of image text) a b p q (refuses_by text image bs length_of a p x) (refuses_by text image bs length_of b q y)

-- The image of a file is refused with 5 only, and only where a value of it is too deep.
pub refused_image : (image text : List ℕ) (a p : ℕ) (f : Lso) → Bytes image → Refused image text a p → Images text f image
    → (a ≡ 5) × (limit.levels < deepest f.body)
refused_image = because.refused_image

-- An image is that of a file whose values are not too deep, or it is refused at a place.
pub file_or_refusal : (image text : List ℕ) → Bytes image
    → ((f : Lso) × Images text f image × (deepest f.body ≤ limit.levels)) ⊎ ((a : ℕ) × (p : ℕ) × Refused image text a p)
file_or_refusal image text bs =
    ⊎_elim (λ e. inl (image_of text image bs e.0 e.1)) (λ e. inr (e.0, e.1, refused_by text image bs length_of e.0 e.1 e.2))
    (ends_or_stops (file length_of image text))

-- A call is refused for a size, by what stands at a place of the image, or for the room; else it puts out what the file is written as.
pub write_reasons : (image text : List ℕ) (room : ℕ) → Bytes image → Outcome image text room (write_of image text room)
write_reasons = reasons

-- Within the limits, a call is refused with 5, or with 6, exactly where the image is so refused by what stands at a place.
pub write_refusals : (image text : List ℕ) (room a : ℕ) → Bytes image → length text ≤ limit.bytes → length image ≤ limit.image → (a ≡ 5) ⊎ (a ≡ 6)
    → write_of image text room ≡ unwritten a ↔ (p : ℕ) × Refused image text a p
write_refusals image text room a bs h i o =
    call_refusals image text (file length_of image text) room a (Refused image text a) (file_refuses text image length_of) h i o λ p. refusal image text a p bs

-- A write is accepted exactly where the image is that of a file whose bytes are within the limit and the room.
pub write_accepted : (image text : List ℕ) (room : ℕ) → Bytes image → (write_of image text room).writing.answer ≡ 0
    ↔ (f : Lso) × Writable image text f × (length (write f) ≤ limit.bytes) × (length (write f) ≤ room)
write_accepted image text room bs = accepted (write_of image text room) (reasons image text room bs) λ f. file_written room

-- In whatever is written, the four bytes behind the first two are 16 plus the name's length plus the body's: as many bytes as stand behind them.
pub written_length : (image text : List ℕ) (room : ℕ) → Bytes image → (write_of image text room).writing.answer ≡ 0
    → SaysLength (write_of image text room).bytes
written_length image text room bs e =
    let x = (write_accepted image text room bs).0 e in
    let l = write_length x.0 in
    rw (file_written room x.1 ∙ sized_written (write x.0) room x.2 x.3)
    (record { name = x.0.name; body = write_body x.0.body; same = refl; says = refl; behind = omega arith; small = omega (arith, x.2) })

-- A refused write counts 0 and has no byte of an output; an accepted one counts the bytes that it has of it, and they have room.
pub write_settled : (image text : List ℕ) (room : ℕ) → Settled room (write_of image text room)
write_settled image text room = call_settled image text room (file length_of image text) (file_refuses text image length_of)
