-- `riddoskam_put` and `riddoskam_record_at`, each the inverse of the other.
use Rattle.std.specs.Prelude.{◌≡◌, Some, None}
use Rattle.wire.proofs.Kit.{ℕ, refl, sym, List, arith}
use Rattle.wire.specs.Number.{Bytes}
use Rattle.image.specs.Taking.{record_at, Taken}
use Rattle.image.specs.Building.{putting, put_of}
use Rattle.image.proofs.Told.{put_taken, taken_put}
use Rattle.riddoskam.specs.Numbers.{taken_answer, taken_numbers, taken_next}

-- What `riddoskam_record_at` leaves.
pub record Leaves (t : Taken) (answer : ℕ) (fields : List ℕ) (next : ℕ) : Type 0 where
  pub answered : taken_answer t ≡ answer
  pub numbers : taken_numbers t ≡ fields
  pub behind : taken_next t ≡ next

-- Behind an accepted put, at what was made before it, stand the numbers that were put, and behind them is what is made now.
pub put_record : (fs : List ℕ) (made : ℕ) (image : List ℕ) → (put_of fs made image).laying.answer ≡ 0
    → Leaves (record_at (put_of fs made image).image made) 0 fs (put_of fs made image).laying.made
put_record fs made image e =
    let x = put_taken fs made image e in
    rw x.2 (record { answered = refl; numbers = sym x.1.numbers; behind = refl })

-- Numbers that were read at a place, put there, leave the image as it is, and what is made is the place behind them.
pub record_put : (image : List ℕ) → Bytes image → (at : ℕ) → taken_answer (record_at image at) ≡ 0
    → put_of (taken_numbers (record_at image at)) at image ≡ putting 0 (taken_next (record_at image at)) image
record_put image bytes at = go (record_at image at) refl
  where
    go : (t : Taken) → record_at image at ≡ t → taken_answer t ≡ 0 → put_of (taken_numbers t) at image ≡ putting 0 (taken_next t) image
    go (Some x) h e = taken_put image bytes at x.0 x.1 h
    go None h e = absurd (omega arith)
