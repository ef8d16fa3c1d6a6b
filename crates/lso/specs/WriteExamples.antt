-- The file of the rule "Examples" (docs/DEMANDS.md) and one more, read whole and written back, one table that the checker computes.
use Rattle.std.specs.Prelude.{ℕ, ◌≡◌, refl, List, [], ◌∷◌, map}
use Rattle.wire.specs.Utf8.{ends}
use Rattle.wire.specs.Field.{u8_at, u16_at, u24_at, u32_at, u64_at, str_at, text_at, tag_at}
use Rattle.image.specs.Record.{bytes_of, size}
use Rattle.image.specs.Whole.{in_room, bytes}
use Rattle.image.specs.Taking.{flag_at, short_at, long_at, u16, u32, u64, flag, short, long, zoned, body_at, record_at}
use Rattle.image.specs.Out as out
use Rattle.image.specs.Out.{Written, written, row}
use Rattle.amf0.specs.Marker.{marker_of}
use Rattle.amf0.specs.Fields.{fields_at}
use Rattle.amf0.specs.Reading.{items, pair, pairs, follow, value}
use Rattle.amf0.specs.Writing as writing
use Rattle.lso.specs.Reading as reading
use Rattle.lso.specs.Reading.{zeros_at, header_at, element_at, incomplete_of, whole_of}
use Rattle.lso.specs.Writing.{element, body, file}
use Rattle.lso.specs.Written.{rewrite_of}

-- an input, and what writing what was read of it comes to in a room of 40 bytes
record Example : Type 0 where
  input : List ℕ
  result : Written

infix 1 ◌gives◌
abbrev ◌gives◌ : List ℕ → Written → Example
s gives w = record { input = s; result = w }

infixr 0 ◌and◌
abbrev ◌and◌ : Example → List Example → List Example
e and es = e ∷ es

-- a file that is called "a" and says a length
abbrev saying : ℕ → List ℕ → List ℕ
saying n b =
    0x00 ∷ 0xBF ∷ 0x00 ∷ 0x00 ∷ 0x00 ∷ n ∷ 0x54 ∷ 0x43 ∷ 0x53 ∷ 0x4F ∷ 0x00 ∷ 0x04 ∷ 0x00 ∷ 0x00 ∷ 0x00 ∷ 0x00 ∷ 0x00 ∷ 0x01 ∷ 0x61 ∷ 0x00 ∷ 0x00 ∷ 0x00 ∷ 0x00 ∷ b

-- the last one has an element "b", the text "hi" in the long form
abbrev table : List Example
table =
    saying 0x11 [] gives written (saying 0x11 [])
    and saying 0x00 [] gives written (saying 0x11 [])
    and saying 0x00 (0x00 ∷ 0x01 ∷ 0x62 ∷ 0x0C ∷ 0x00 ∷ 0x00 ∷ 0x00 ∷ 0x02 ∷ 0x68 ∷ 0x69 ∷ 0x00 ∷ [])
    gives written (saying 0x1A (0x00 ∷ 0x01 ∷ 0x62 ∷ 0x02 ∷ 0x00 ∷ 0x02 ∷ 0x68 ∷ 0x69 ∷ 0x00 ∷ []))
    and []

pub examples : map (λ e. rewrite_of whole_of e.input 40 40) table ≡ map (λ e. e.result) table
unfolding whole_of incomplete_of header_at element_at reading.body_at zeros_at in_room bytes bytes_of size value items pair pairs follow fields_at marker_of u8_at u16_at u24_at u32_at
    u64_at text_at str_at tag_at ends flag_at short_at long_at u16 u32 u64 flag short long zoned body_at record_at out.settled out.ended out.bytes row writing.value
    writing.items writing.pairs writing.dense writing.rest writing.value_at element body file
examples = refl
