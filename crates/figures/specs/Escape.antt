-- The escapes of JSON, and which characters have one.
use Rattle.std.specs.Prelude.{ℕ, ◌+◌, ◌*◌, ◌%◌, List, [], ◌∷◌, Bool, true, false, length, get_or, eqb, leb, ltb, Option, Some, None}
use Rattle.wire.specs.Choice.{pick}
use Rattle.figures.specs.declared.escape.Escape.{Escape}
use Rattle.figures.specs.declared.escape.Escape.TheVariants.{Letter, Number}

-- the characters from a to b
infix 90 ◌to◌
abbrev pub ◌to◌ : ℕ → ℕ → List ℕ
a to b = a ∷ b ∷ []

-- What people don't see, or can't tell from something else, in the order of the numbers: what Unicode has as control, format and private use characters
-- (categories Cc, Cf, Co), separators but U+0020 (Zs, Zl, Zp), default ignorable and no characters, and the blank of Braille, U+2800. Surrogates are no
-- characters of UTF-8, and in the planes 4 to 13 there are none yet: with them the last range goes to the end.
abbrev pub hidden : List (List ℕ)
hidden =
    0x00 to 0x1F
    ∷ 0x7F to 0xA0
    ∷ 0xAD to 0xAD
    ∷ 0x034F to 0x034F
    ∷ 0x0600 to 0x0605
    ∷ 0x061C to 0x061C
    ∷ 0x06DD to 0x06DD
    ∷ 0x070F to 0x070F
    ∷ 0x0890 to 0x0891
    ∷ 0x08E2 to 0x08E2
    ∷ 0x115F to 0x1160
    ∷ 0x1680 to 0x1680
    ∷ 0x17B4 to 0x17B5
    ∷ 0x180B to 0x180F
    ∷ 0x2000 to 0x200F
    ∷ 0x2028 to 0x202F
    ∷ 0x205F to 0x206F
    ∷ 0x2800 to 0x2800
    ∷ 0x3000 to 0x3000
    ∷ 0x3164 to 0x3164
    ∷ 0xD800 to 0xF8FF
    ∷ 0xFDD0 to 0xFDEF
    ∷ 0xFE00 to 0xFE0F
    ∷ 0xFEFF to 0xFEFF
    ∷ 0xFFA0 to 0xFFA0
    ∷ 0xFFF0 to 0xFFFB
    ∷ 0xFFFE to 0xFFFF
    ∷ 0x110BD to 0x110BD
    ∷ 0x110CD to 0x110CD
    ∷ 0x13430 to 0x1343F
    ∷ 0x1BCA0 to 0x1BCA3
    ∷ 0x1D173 to 0x1D17A
    ∷ 0x1FFFE to 0x1FFFF
    ∷ 0x2FFFE to 0x2FFFF
    ∷ 0x3FFFE to 0x10FFFF
    ∷ []

-- Whether a number is in one of some ranges that go up: what is below one of them is in none behind it.
unfoldable pub within : List (List ℕ) → ℕ → Bool
within [] p = false
within (r ∷ rs) p = pick (ltb p (get_or r 0 0)) false (pick (leb p (get_or r 1 0)) true (within rs p))

-- The escape, if there is one: tab, line feed, carriage return, quote and backslash have a letter of their own behind the backslash, and what is hidden goes out
-- by its number.
unfoldable pub escape_of : ℕ → Option Escape
escape_of p =
    pick (eqb p 0x09) (Some (Letter 0x74))
    (pick (eqb p 0x0A) (Some (Letter 0x6E))
    (pick (eqb p 0x0D) (Some (Letter 0x72))
    (pick (eqb p 0x22) (Some (Letter 0x22)) (pick (eqb p 0x5C) (Some (Letter 0x5C)) (pick (within hidden p) (Some (Number p)) None)))))

-- the number of a character, from its bytes in UTF-8
unfoldable pub point_of : List ℕ → ℕ
point_of c =
    pick (eqb (length c) 2) (get_or c 0 0 % 32 * 64 + get_or c 1 0 % 64)
    (pick (eqb (length c) 3) ((get_or c 0 0 % 16 * 64 + get_or c 1 0 % 64) * 64 + get_or c 2 0 % 64)
    (pick (eqb (length c) 4) (((get_or c 0 0 % 8 * 64 + get_or c 1 0 % 64) * 64 + get_or c 2 0 % 64) * 64 + get_or c 3 0 % 64) (get_or c 0 0)))
