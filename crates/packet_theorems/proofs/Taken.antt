-- What a reading accepts: a reading that ends inside the packet, within the limit and the room.
use Rattle.std.specs.Prelude.{◌≤◌, ◌≡◌}
use Rattle.wire.proofs.Kit.{ℕ, List, arith, length, subst}
use Rattle.wire.specs.Limit as limit
use Rattle.image.specs.Whole.{bytes}
use Rattle.amf0_theorems.proofs.Call.{Taken, call_roomy, call_takes}
use Rattle.packet.specs.Reading.{packet_at, incomplete_of, whole_of}
use Rattle.packet_theorems.proofs.Outcome.{packet_bounded}
use Rattle.image.proofs.Settle.{ended, all_cases}

-- an incomplete reading in a room that is large enough
pub roomy : (s : List ℕ) (room : ℕ) → length s ≤ limit.bytes → length (bytes (packet_at s)) ≤ room → incomplete_of s room ≡ ended (packet_at s) (bytes (packet_at s))
unfolding incomplete_of
roomy s room = call_roomy s (packet_at s) room

-- what it accepts
pub taken : (s : List ℕ) (room : ℕ) → (incomplete_of s room).reading.answer ≡ 0
    → Taken s (packet_at s) room (incomplete_of s room).reading.used (incomplete_of s room)
unfolding incomplete_of
taken s room = call_takes s (packet_at s) room (packet_bounded s)

-- the whole reading accepts up to the last byte
pub whole_taken : (s : List ℕ) (room : ℕ) → (whole_of s room).reading.answer ≡ 0 → Taken s (packet_at s) room (length s) (whole_of s room)
unfolding whole_of
whole_taken s room =
    all_cases s (incomplete_of s room) (λ w. w.reading.answer ≡ 0 → Taken s (packet_at s) room (length s) w) (λ n e. absurd (n e)) (λ a l e. absurd (omega arith))
    (λ a l e.
    let t = taken s room a in
    let is : (incomplete_of s room).reading.used ≡ length s = omega (arith, t.within) in
    subst (λ n. Taken s (packet_at s) room n (incomplete_of s room)) is t)
