-- The rule "Examples" (docs/DEMANDS.md): those on values without a star, one table that the checker computes. The starred ones are the table of the crate
-- `demands`.
use Rattle.std.specs.Prelude.{ℕ, zero, suc, ◌≡◌, refl, List, [], ◌∷◌, map}
use Rattle.wire.specs.Utf8.{ends}
use Rattle.wire.specs.Field.{u8_at, u16_at, u32_at, u64_at, str_at, text_at}
use Rattle.image.specs.Record.{bytes_of, size}
use Rattle.image.specs.Whole.{Whole, accepted, refused, in_room}
use Rattle.amf0.specs.Marker.{marker_of}
use Rattle.amf0.specs.Fields.{fields_at}
use Rattle.amf0.specs.Reading.{items, pair, pairs, follow, value, read_of}

-- an input, and what the public call comes to on it in a room of 160 bytes: the bytes used and the image's bytes, or an answer that refuses and its place
record Example : Type 0 where
  input : List ℕ
  result : Whole

infix 1 ◌gives◌
abbrev ◌gives◌ : List ℕ → Whole → Example
s gives w = record { input = s; result = w }

infixr 0 ◌and◌
abbrev ◌and◌ : Example → List Example → List Example
e and es = e ∷ es

-- so many arrays of one value each, one inside the other, round a value
abbrev arrays : ℕ → List ℕ → List ℕ
arrays zero v = v
arrays (suc n) v = 0x0A ∷ 0x00 ∷ 0x00 ∷ 0x00 ∷ 0x01 ∷ arrays n v

abbrev table : List Example
table =
    0x02 ∷ 0x00 ∷ 0x02 ∷ 0x68 ∷ [] gives refused 2 3
    and arrays 31 (0x05 ∷ []) gives accepted 156 (arrays 31 (0x05 ∷ []))
    and arrays 32 (0x05 ∷ []) gives refused 5 160
    and arrays 32 (0x04 ∷ []) gives refused 3 160
    and []

pub examples : map (λ e. read_of e.input 160) table ≡ map (λ e. e.result) table
unfolding in_room bytes_of size value items pair pairs follow fields_at marker_of u8_at u16_at u32_at u64_at text_at str_at ends
examples = refl
