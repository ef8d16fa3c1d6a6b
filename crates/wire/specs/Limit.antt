-- The rule "Limits" (docs/DEMANDS.md).
use Rattle.std.specs.Prelude.{ℕ}

-- the most bytes that an input, a writer's text or written output may have
abbrev pub bytes : ℕ
bytes = 1048576

-- the most bytes that an image given to a writer may have
abbrev pub image : ℕ
image = 3145728

-- the deepest level at which a value may stand; a top value is at level 1
abbrev pub levels : ℕ
levels = 32
