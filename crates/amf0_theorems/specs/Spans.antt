-- What the value in a span of an input comes to, and when, with no word of what holds the span.
use Rattle.std.specs.Prelude.{ℕ, ◌+◌, ◌≤◌, ◌≡◌, ◌⊎◌, List, ◌∷◌, ◌++◌, length}
use Rattle.wire.specs.Limit as limit
use Rattle.image.specs.Due.{Lacks}
use Rattle.image.specs.Whole.{Whole, bytes, accepted, refused}
use Rattle.amf0.specs.Span.{Span, held, in_span, one_value}
use Rattle.amf0.specs.Standard.{Sort, Tree, depth, Encodes}
use Rattle.amf0_theorems.specs.Refusal.{RefusedValue}

-- the bytes y are a value that is not too deep
pub record Value (y : List ℕ) : Type 0 where
  pub tree : Tree Sort.value
  pub encodes : Encodes Sort.value tree y
  pub deep : depth tree ≤ limit.levels

-- bytes are left over behind what P says of the first: the first of them is refused
pub data LeftOver (P : List ℕ → Type 0) : List ℕ → (answer place : ℕ) → Type 0 where
  behind : {x : List ℕ} (b : ℕ) (r : List ℕ) → P x → LeftOver P (x ++ (b ∷ r)) 3 (length x)

-- the reading of the value in a span: places in its bytes alone count from the input's start
pub data ComesValue (s : List ℕ) (p : Span) (room : ℕ) : Whole → Type 0 where
  no_room : (q : ℕ) → Lacks (one_value (held s p)) 0 room q → ComesValue s p room (refused 4 (p.place + q))
  deep : {q : ℕ} → length (bytes (in_span one_value s p)) ≤ room → RefusedValue limit.levels (held s p) 0 5 q → ComesValue s p room (refused 5 (p.place + q))
  -- no value stands in its bytes
  damaged : {a q : ℕ} → length (bytes (in_span one_value s p)) ≤ room → RefusedValue limit.levels (held s p) 0 a q → (a ≡ 2) ⊎ (a ≡ 3)
      → ComesValue s p room (refused 9 (p.place + q))
  -- one stands there, and bytes are left over
  unused : {a q : ℕ} → length (bytes (in_span one_value s p)) ≤ room → LeftOver Value (held s p) a q → ComesValue s p room (refused 9 (p.place + q))
  read : length (bytes (in_span one_value s p)) ≤ room → Value (held s p) → ComesValue s p room (accepted p.length (bytes (in_span one_value s p)))
