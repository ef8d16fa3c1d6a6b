-- What a writing comes to, with no word of what it writes.
use Rattle.std.specs.Prelude.{◌≤◌, ◌≢◌}
use Rattle.wire.proofs.Kit.{ℕ, List, length}
use Rattle.image.specs.Out.{Written, written, unwritten}

-- a refusal counts 0 and has no byte; an acceptance counts the bytes that it has, and they have room
pub data Settled (room : ℕ) : Written → Type 0 where
  refused : (a : ℕ) → a ≢ 0 → Settled room (unwritten a)
  put_out : (b : List ℕ) → length b ≤ room → Settled room (written b)
