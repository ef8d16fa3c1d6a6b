-- What the writer's steps tell each other besides what they write.
use Rattle.std.specs.Prelude.{ℕ, ◌≡◌, List}
use Rattle.wire.specs.declared.cursor.Cursor.{Cursor}
use Rattle.image.specs.Due.{Step, went_to}
use Rattle.image.specs.Out.{Out, pour}

-- A writing was carried out: it came to this step, and where that goes on, to this output. Where it is refused, a length that was not set yet may stand
-- in the output.
pub record Carried (d : Out) (count : ℕ) (old : List ℕ) (x : Step) (new : List ℕ) : Type 0 where
  pub step : x ≡ (pour d count old).step
  pub out : (c : Cursor) (n : ℕ) → x ≡ went_to c n → new ≡ (pour d count old).out
