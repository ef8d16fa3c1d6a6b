-- Well-formed UTF-8: RFC 3629, section 4.
use Rattle.std.specs.Prelude.{ℕ, List, [], ◌∷◌, Bool, true, false, leb}
use Rattle.wire.specs.Choice.{pick}

-- the bytes from low to high
pub record Range : Type 0 where
  pub low : ℕ
  pub high : ℕ

infix 90 ◌to◌
abbrev pub ◌to◌ : ℕ → ℕ → Range
l to h = record { low = l; high = h }

abbrev pub has : Range → ℕ → Bool
has r b = pick (leb b r.high) (leb r.low b) false

-- a form of a character: the range of its first byte, and those of the bytes behind it
pub record Form : Type 0 where
  pub first : Range
  pub behind : List Range

infix 80 ◌then◌
abbrev pub ◌then◌ : Range → List Range → Form
f then b = record { first = f; behind = b }

abbrev pub tail : Range
tail = 0x80 to 0xBF

-- UTF8-1, UTF8-2, UTF8-3 and UTF8-4
abbrev pub forms : List Form
forms =
    (0x00 to 0x7F then [])
    ∷ (0xC2 to 0xDF then (tail ∷ []))
    ∷ (0xE0 to 0xE0 then (0xA0 to 0xBF ∷ tail ∷ []))
    ∷ (0xE1 to 0xEC then (tail ∷ tail ∷ []))
    ∷ (0xED to 0xED then (0x80 to 0x9F ∷ tail ∷ []))
    ∷ (0xEE to 0xEF then (tail ∷ tail ∷ []))
    ∷ (0xF0 to 0xF0 then (0x90 to 0xBF ∷ tail ∷ tail ∷ []))
    ∷ (0xF1 to 0xF3 then (tail ∷ tail ∷ tail ∷ []))
    ∷ (0xF4 to 0xF4 then (0x80 to 0x8F ∷ tail ∷ tail ∷ []))
    ∷ []

-- the form that a byte begins, if any; no two forms begin alike
abbrev pub begun : List Form → ℕ → (List Range → Bool) → Bool
begun [] b rest = false
begun (f ∷ fs) b rest = pick (has f.first b) (rest f.behind) (begun fs b rest)

-- bytes in these ranges, and then characters to the end
unfoldable pub ends : List Range → List ℕ → Bool
ends [] [] = true
ends (r ∷ rs) [] = false
ends (r ∷ rs) (b ∷ s) = pick (has r b) (ends rs s) false
ends [] (b ∷ s) = begun forms b λ rs. ends rs s

-- UTF8-octets: a row of characters
abbrev pub utf8 : List ℕ → Bool
utf8 s = ends [] s
