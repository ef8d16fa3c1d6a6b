-- The round trip in every room that is not refused for room, and so in the room of the first reading: no record of a dropped element is due in the second.
use Rattle.std.specs.Prelude.{◌+◌, ◌*◌, ◌≤◌, ◌≡◌, ◌≢◌}
use Rattle.wire.proofs.Kit.{ℕ, refl, sym, ap, ◌∙◌, List, [], append-nil, le_refl, arith, length}
use Rattle.wire.specs.Number.{Bytes}
use Rattle.image.specs.Out.{written}
use Rattle.image.specs.Whole.{Whole, bytes}
use Rattle.image.proofs.Settle.{one_end}
use Rattle.image.specs.declared.record.Record.TheVariants as R
use Rattle.image.specs.Record.{size}
use Rattle.amf0.specs.Shown.{laid}
use Rattle.amf0_theorems.proofs.Puts.{laid_size}
use Rattle.amf0_theorems.proofs.More.{any_room}
use Rattle.amf0_theorems.proofs.Room.{alike_size}
use Rattle.lso.specs.File.{Lso}
use Rattle.lso.specs.Reading.{header_at, element_at, body_at, incomplete_of, whole_of}
use Rattle.lso.specs.Writing.{write_of}
use Rattle.lso.specs.Written.{Images, rewrite_of}
use Rattle.lso.proofs.Body.{element_out, behind}
use Rattle.lso_theorems.proofs.Sound.{end_heads}
use Rattle.lso_theorems.proofs.Complete.{file_reads}
use Rattle.lso_theorems.proofs.WriteOutcome.{made, due_image, whole_same, WasRead, read_incomplete, read_whole}
use Rattle.lso_theorems.proofs.Files.{file_bytes_lem}
use Rattle.lso_theorems.proofs.Theorems.{room_exact_whole, room_more_whole}
use Rattle.lso_theorems.proofs.WriteTheorems.{written_back, RoundTrip, trips, repeats}

-- ---- the image of what was written

-- where nothing is left no record falls due
none_due : (s : List ℕ) → length (bytes (element_at s (length s))) ≡ 0
unfolding bytes
none_due s = rw (element_out s (length s) (le_refl (length s)))

-- the record of a file's length and name has 10 bytes
image_size : {s image : List ℕ} {f : Lso} (i : Images s f image) → length image ≡ 10 + length (laid i.records)
unfolding size
image_size {f} i = ap length i.lies ∙ laid_size (R.Lso f.stored i.place (length f.name)) i.records

module _ {s : List ℕ} {v : Whole} (m : WasRead s v) (b : List ℕ) (out : ℕ) (e : write_of v.bytes s out ≡ written b) where
  -- what was written of a file that was read is not refused for room where the first image has room
  holds : (room : ℕ) → length v.bytes ≤ room → (whole_of b room).reading.answer ≢ 4
  holds room h f =
      let more : ℕ = 3 * length b in
      let x = m.image.writable in
      let r = written_back v.bytes s b m.lso out more x e (le_refl more) in
      let y = r.image.writable in
      let w = whole_same b more r.answer in
      let c = made b more (rw w at r.answer) in
      let t = file_reads r.file b [] 2 (length b) (length b) y.deep (record { same = sym (append-nil b) }) refl
      (rw (element_out b (length b) (le_refl (length b))) (refl, refl)) in
      let one = one_end (header_at b) t.ended c.ended in
      let tried : (body_at b (length b) c.header).tried ≡ element_at b (length b) = (behind b c.header c.ended).tried ∙ ap (element_at b) (rw one at t.body) in
      let i = x.images in
      let j = y.images in
      omega (
        arith,
        (room_exact_whole b room c.header c.text_size (end_heads b (file_bytes_lem r.file) c.header c.ended)).0 f,
        due_image b c.header c.ended,
        none_due b,
        ap (λ d. length (bytes d)) tried,
        ap length c.same,
        ap (λ (u : Whole). length u.bytes) w,
        image_size i,
        image_size j,
        alike_size i.records j.records (m.image.alike ∙ sym r.image.alike),
      )

  -- in every room that is not refused for room, and in that of the first reading, it reads back, and to write that once more changes nothing
  trips_any : (more : ℕ) → (whole_of b more).reading.answer ≢ 4 → RoundTrip s b v (whole_of b more)
  trips_any = any_room (whole_of b) (room_more_whole b) (RoundTrip s b v) (3 * length b) λ more. trips m b out more e

  trips_same : (room : ℕ) → length v.bytes ≤ room → RoundTrip s b v (whole_of b room)
  trips_same room h = trips_any room (holds room h)

  repeats_any : (more once : ℕ) → (whole_of b more).reading.answer ≢ 4 → length b ≤ once → rewrite_of whole_of b more once ≡ written b
  repeats_any more once n h =
      any_room (whole_of b) (room_more_whole b) (λ w. write_of w.bytes b once ≡ written b) (3 * length b) (λ k i. repeats m b out k once e i h) more n

-- what an accepted reading makes has room, of the incomplete reading and of the whole one
incomplete_fits : (s : List ℕ) (room : ℕ) → (incomplete_of s room).reading.answer ≡ 0 → length (incomplete_of s room).bytes ≤ room
incomplete_fits s room e = let c = made s room e in omega (arith, c.due, ap length c.same, due_image s c.header c.ended)

whole_fits : (s : List ℕ) (room : ℕ) → (whole_of s room).reading.answer ≡ 0 → length (whole_of s room).bytes ≤ room
whole_fits s room e = let w = whole_same s room e in rw w (incomplete_fits s room (rw w at e))

-- ---- the round trip

-- A file that was read whole and then written reads back in every room that is not refused for room.
pub round_trip_any : (s b : List ℕ) (room out more : ℕ) → Bytes s → (whole_of s room).reading.answer ≡ 0 → rewrite_of whole_of s room out ≡ written b
    → (whole_of b more).reading.answer ≢ 4 → RoundTrip s b (whole_of s room) (whole_of b more)
round_trip_any s b room out more bs e f = trips_any (read_whole s room bs e) b out f more

-- So does a file that the incomplete reading used.
pub round_trip_any_incomplete : (s b : List ℕ) (room out more : ℕ) → Bytes s → (incomplete_of s room).reading.answer ≡ 0
    → rewrite_of incomplete_of s room out ≡ written b → (whole_of b more).reading.answer ≢ 4 → RoundTrip s b (incomplete_of s room) (whole_of b more)
round_trip_any_incomplete s b room out more bs e f = trips_any (read_incomplete s room bs e) b out f more

-- So a file that was read whole and then written reads back in the room of the first reading.
pub same_room : (s b : List ℕ) (room out : ℕ) → Bytes s → (whole_of s room).reading.answer ≡ 0 → rewrite_of whole_of s room out ≡ written b
    → RoundTrip s b (whole_of s room) (whole_of b room)
same_room s b room out bs e f = trips_same (read_whole s room bs e) b out f room (whole_fits s room e)

-- And so does a file that the incomplete reading used.
pub same_room_incomplete : (s b : List ℕ) (room out : ℕ) → Bytes s → (incomplete_of s room).reading.answer ≡ 0
    → rewrite_of incomplete_of s room out ≡ written b → RoundTrip s b (incomplete_of s room) (whole_of b room)
same_room_incomplete s b room out bs e f = trips_same (read_incomplete s room bs e) b out f room (incomplete_fits s room e)

-- To read it in such a room and write it once more changes nothing more.
pub again_any : (s b : List ℕ) (room out more once : ℕ) → Bytes s → (whole_of s room).reading.answer ≡ 0 → rewrite_of whole_of s room out ≡ written b
    → (whole_of b more).reading.answer ≢ 4 → length b ≤ once → rewrite_of whole_of b more once ≡ written b
again_any s b room out more once bs e f = repeats_any (read_whole s room bs e) b out f more once

-- Nor does it after the incomplete reading.
pub again_any_incomplete : (s b : List ℕ) (room out more once : ℕ) → Bytes s → (incomplete_of s room).reading.answer ≡ 0
    → rewrite_of incomplete_of s room out ≡ written b → (whole_of b more).reading.answer ≢ 4 → length b ≤ once → rewrite_of whole_of b more once ≡ written b
again_any_incomplete s b room out more once bs e f = repeats_any (read_incomplete s room bs e) b out f more once
