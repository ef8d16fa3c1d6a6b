-- Images that no reading makes: examples of the rules "Writing checks first" and "What is written" (docs/DEMANDS.md), one table that the checker computes.
use Rattle.std.specs.Prelude.{ℕ, ◌≡◌, refl, List, [], ◌∷◌, map}
use Rattle.wire.specs.Utf8.{ends}
use Rattle.wire.specs.Field.{u8_at, u16_at, u24_at, u32_at, u64_at, str_at, text_at}
use Rattle.image.specs.Taking.{flag_at, short_at, long_at, u16, u32, u64, flag, short, long, zoned, body_at, record_at}
use Rattle.image.specs.Out.{Written, written, unwritten, row, bytes, ended, settled}
use Rattle.amf0.specs.Writing.{value, items, pairs, dense, rest, value_at, write_of}

-- an image and its text, and what the writing of it comes to in a room of 24 bytes
record Example : Type 0 where
  image : List ℕ
  text : List ℕ
  result : Written

infix 1 ◌over◌gives◌
abbrev ◌over◌gives◌ : List ℕ → List ℕ → Written → Example
i over s gives w = record { image = i; text = s; result = w }

infixr 0 ◌and◌
abbrev ◌and◌ : Example → List Example → List Example
e and es = e ∷ es

-- values without a key, a date without a zone, a boolean that is no boolean, and no record at all
abbrev table : List Example
table =
    0x08 ∷ 0x00 ∷ 0x00 ∷ 0x00 ∷ 0x02 ∷ 0x05 ∷ 0x06 ∷ 0x20 ∷ 0x00 ∷ 0x00 ∷ 0x00 ∷ 0x00 ∷ 0x01 ∷ 0x05 ∷ 0x09 ∷ [] over 0x61 ∷ []
    gives written
    (0x08 ∷ 0x00 ∷ 0x00 ∷ 0x00 ∷ 0x02 ∷ 0x00 ∷ 0x01 ∷ 0x30 ∷ 0x05 ∷ 0x00 ∷ 0x01 ∷ 0x31 ∷ 0x06 ∷ 0x00 ∷ 0x01 ∷ 0x61 ∷ 0x05 ∷ 0x00 ∷ 0x00 ∷ 0x09 ∷ [])
    and 0x0B ∷ 0x42 ∷ 0x00 ∷ 0x00 ∷ 0x00 ∷ 0x00 ∷ 0x00 ∷ 0x00 ∷ 0x00 ∷ 0x00 ∷ 0x00 ∷ 0x00 ∷ [] over []
    gives written (0x0B ∷ 0x42 ∷ 0x00 ∷ 0x00 ∷ 0x00 ∷ 0x00 ∷ 0x00 ∷ 0x00 ∷ 0x00 ∷ 0x00 ∷ 0x00 ∷ [])
    and 0x01 ∷ 0x02 ∷ [] over [] gives unwritten 6
    and [] over [] gives unwritten 6
    and []

pub examples : map (λ e. write_of e.image e.text 24) table ≡ map (λ e. e.result) table
unfolding settled ended bytes u8_at u16_at u24_at u32_at u64_at text_at str_at ends flag_at short_at long_at u16 u32 u64 flag short long zoned body_at record_at row value items pairs
    dense rest value_at
examples = refl
