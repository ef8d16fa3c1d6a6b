-- What asks for a word of docs/JSON.md.
use Rattle.std.specs.Prelude.{ℕ, ◌/◌, ◌%◌, ◌^◌, List, [], ◌∷◌, Bool, true, false, eqb}
use Rattle.wire.specs.Choice.{pick}

-- -0, or an exponent of ones: a NaN or an infinity
unfoldable pub is_special : ℕ → Bool
is_special bits = pick (eqb bits (2 ^ 63)) true (eqb (bits / 2 ^ 52 % 2048) 2047)

-- an exponent of ones, and a fraction
unfoldable pub is_nan : ℕ → Bool
is_nan bits = pick (eqb (bits % 2 ^ 52) 0) false (eqb (bits / 2 ^ 52 % 2048) 2047)

-- a key that begins with `$`
unfoldable pub is_word : List ℕ → Bool
is_word [] = false
is_word (b ∷ _) = eqb b 0x24

-- byte by byte
unfoldable pub is_same : List ℕ → List ℕ → Bool
is_same [] [] = true
is_same [] (_ ∷ _) = false
is_same (_ ∷ _) [] = false
is_same (x ∷ a) (y ∷ b) = pick (eqb x y) (is_same a b) false
