-- The round trip in every room that is not refused for room, and so in the room of the first reading: its image has as many bytes as the other.
use Rattle.std.specs.Prelude.{◌*◌, ◌≤◌, ◌≡◌, ◌≢◌, ◌∷◌}
use Rattle.wire.proofs.Kit.{ℕ, refl, sym, ap, ◌∙◌, List, [], map, le_refl, arith, length}
use Rattle.wire.specs.Number.{Bytes}
use Rattle.image.specs.declared.record.Record.{Record}
use Rattle.image.specs.Record.{unplaced}
use Rattle.image.specs.Out.{written}
use Rattle.image.proofs.Laws.{size_placed}
use Rattle.amf0.specs.Reading.{read_of}
use Rattle.amf0.specs.Shown.{laid}
use Rattle.amf0.specs.Writing.{write_of}
use Rattle.amf0.specs.Written.{Alike, rewrite_of}
use Rattle.amf0_theorems.proofs.More.{any_room}
use Rattle.amf0_theorems.proofs.Puts.{laid_size}
use Rattle.amf0_theorems.proofs.WriteOutcome.{accepted_read}
use Rattle.amf0_theorems.proofs.Theorems.{room_exact, room_more}
use Rattle.amf0_theorems.proofs.WriteTheorems.{RoundTrip, round_trip, again}

-- ---- a record's size does not hang on its places

laid_unplaced : (rs : List Record) → length (laid (map unplaced rs)) ≡ length (laid rs)
laid_unplaced [] = refl
laid_unplaced (r ∷ rs) = omega (arith, laid_size (unplaced r) (map unplaced rs), laid_size r rs, size_placed (λ p. 0) r, laid_unplaced rs)

-- records that are the same but for places have as many bytes
pub alike_size : (rs qs : List Record) → map unplaced rs ≡ map unplaced qs → length (laid rs) ≡ length (laid qs)
alike_size rs qs e = sym (laid_unplaced rs) ∙ (ap (λ x. length (laid x)) e ∙ laid_unplaced qs)

-- so have images that are alike
pub alike_length : {s b i j : List ℕ} → Alike s b i j → length i ≡ length j
alike_length a = ap length a.lies ∙ (alike_size a.first a.second a.same ∙ sym (ap length a.lies_too))

-- ---- the value

-- Where a value's image is like another, no room that holds that one is refused for room.
pub holds : {s b i : List ℕ} (more room : ℕ) → (read_of b more).reading.answer ≡ 0 → Alike s b i (read_of b more).bytes → length i ≤ room
    → (read_of b room).reading.answer ≢ 4
holds {b} more room e a h f =
    let r = accepted_read b more e in
    omega (arith, (room_exact b room r.text_size).0 f, ap length r.made, alike_length a)

-- A tree that was read and then written in full reads back in every room that is not refused for room.
pub round_trip_any : (s b : List ℕ) (room out more : ℕ) → Bytes s → (read_of s room).reading.answer ≡ 0 → rewrite_of s room out ≡ written b
    → (read_of b more).reading.answer ≢ 4 → RoundTrip s b (read_of s room) (read_of b more)
round_trip_any s b room out more bs e f =
    any_room (read_of b) (room_more b) (RoundTrip s b (read_of s room)) (3 * length b) (λ m. round_trip s b room out m bs e f) more

-- So it does in the room of the first reading.
pub same_room : (s b : List ℕ) (room out : ℕ) → Bytes s → (read_of s room).reading.answer ≡ 0 → rewrite_of s room out ≡ written b
    → RoundTrip s b (read_of s room) (read_of b room)
same_room s b room out bs e f =
    let more : ℕ = 3 * length b in
    let t = round_trip s b room out more bs e f (le_refl more) in
    round_trip_any s b room out room bs e f (holds more room t.back.answer t.alike (accepted_read s room e).fits)

-- To read it in such a room and write it once more changes nothing more.
pub again_any : (s b : List ℕ) (room out more once : ℕ) → Bytes s → (read_of s room).reading.answer ≡ 0 → rewrite_of s room out ≡ written b
    → (read_of b more).reading.answer ≢ 4 → length b ≤ once → rewrite_of b more once ≡ written b
again_any s b room out more once bs e f n h =
    any_room (read_of b) (room_more b) (λ w. write_of w.bytes b once ≡ written b) (3 * length b) (λ m i. again s b room out m once bs e f i h) more n
