-- The rule "Examples" (docs/DEMANDS.md): the starred ones, in its order, as the single table that it asks for. The checker computes it.
use Rattle.std.specs.Prelude.{ℕ, ◌≡◌, refl, List, [], ◌∷◌, ◌++◌, map}
use Rattle.wire.specs.Utf8.{ends}
use Rattle.wire.specs.Field.{u8_at, u16_at, u24_at, u32_at, u64_at, str_at, text_at, tag_at}
use Rattle.image.specs.Record.{bytes_of, size}
use Rattle.image.specs.Taking.{flag_at, short_at, long_at, u16, u32, u64, flag, short, long, zoned, body_at as record_body_at, record_at}
use Rattle.image.specs.Whole.{Whole, accepted, refused, bytes, in_room}
use Rattle.image.specs.Out as out
use Rattle.image.specs.Out.{Written, written, row}
use Rattle.amf0.specs.Marker.{marker_of}
use Rattle.amf0.specs.Fields.{fields_at}
use Rattle.amf0.specs.Reading as reading
use Rattle.amf0.specs.Reading.{read_of}
use Rattle.amf0.specs.Writing as writing
use Rattle.amf0.specs.Written.{rewrite_of}
use Rattle.lso.specs.Reading.{zeros_at, header_at, element_at, body_at, incomplete_of, whole_of}

-- A line of the table, in rooms of 24 bytes: a value and what reading it comes to; a value and what writing what was read of it comes to; a file, and what the
-- whole reading and the incomplete one come to.
pub data Example : Type 0 where
  value : (s : List ℕ) → Whole → Example
  rewritten : (s : List ℕ) → Written → Example
  file : (s : List ℕ) → (whole incomplete : Whole) → Example

-- the three lines, as the table writes them: what a value reads as,
infix 1 ◌reads◌
abbrev ◌reads◌ : List ℕ → Whole → Example
s reads w = Example.value s w

-- what it is written back as,
infix 1 ◌writes◌
abbrev ◌writes◌ : List ℕ → Written → Example
s writes w = Example.rewritten s w

-- and what a file reads as
infix 1 ◌whole◌incomplete◌
abbrev ◌whole◌incomplete◌ : List ℕ → Whole → Whole → Example
s whole w incomplete v = Example.file s w v

-- lines in a row
infixr 0 ◌and◌
abbrev ◌and◌ : Example → List Example → List Example
e and es = e ∷ es

-- the file of 23 bytes, and its image
abbrev header : List ℕ
header =
    0x00 ∷ 0xBF ∷ 0x00 ∷ 0x00 ∷ 0x00 ∷ 0x11 ∷ 0x54 ∷ 0x43 ∷ 0x53 ∷ 0x4F ∷ 0x00 ∷ 0x04 ∷ 0x00 ∷ 0x00 ∷ 0x00 ∷ 0x00 ∷ 0x00 ∷ 0x01 ∷ 0x61
    ∷ 0x00 ∷ 0x00 ∷ 0x00 ∷ 0x00 ∷ []

abbrev shown : List ℕ
shown = 0x33 ∷ 0x00 ∷ 0x00 ∷ 0x00 ∷ 0x11 ∷ 0x00 ∷ 0x00 ∷ 0x12 ∷ 0x00 ∷ 0x01 ∷ []

-- the table
abbrev pub table : List Example
table =
    0x01 ∷ 0x02 ∷ [] reads accepted 2 (0x01 ∷ 0x01 ∷ [])
    and 0x01 ∷ 0x02 ∷ [] writes written (0x01 ∷ 0x01 ∷ [])
    and 0x02 ∷ 0x00 ∷ 0x02 ∷ 0x68 ∷ 0x69 ∷ [] reads accepted 5 (0x02 ∷ 0x00 ∷ 0x00 ∷ 0x03 ∷ 0x00 ∷ 0x00 ∷ 0x02 ∷ [])
    and 0x0C ∷ 0x00 ∷ 0x00 ∷ 0x00 ∷ 0x02 ∷ 0x68 ∷ 0x69 ∷ [] reads accepted 7 (0x02 ∷ 0x00 ∷ 0x00 ∷ 0x05 ∷ 0x00 ∷ 0x00 ∷ 0x02 ∷ [])
    and 0x0C ∷ 0x00 ∷ 0x00 ∷ 0x00 ∷ 0x02 ∷ 0x68 ∷ 0x69 ∷ [] writes written (0x02 ∷ 0x00 ∷ 0x02 ∷ 0x68 ∷ 0x69 ∷ [])
    and 0x03 ∷ 0x00 ∷ 0x01 ∷ 0x61 ∷ 0x09 ∷ [] reads accepted 5 (0x03 ∷ 0x09 ∷ [])
    and 0x03 ∷ 0x00 ∷ 0x01 ∷ 0x61 ∷ 0x09 ∷ [] writes written (0x03 ∷ 0x00 ∷ 0x00 ∷ 0x09 ∷ [])
    and 0x03 ∷ 0x00 ∷ 0x00 ∷ 0x05 ∷ 0x00 ∷ 0x00 ∷ 0x09 ∷ []
    reads accepted 7 (0x03 ∷ 0x20 ∷ 0x00 ∷ 0x00 ∷ 0x03 ∷ 0x00 ∷ 0x00 ∷ 0x05 ∷ 0x09 ∷ [])
    and 0x0A ∷ 0x00 ∷ 0x00 ∷ 0x00 ∷ 0x00 ∷ [] reads accepted 5 (0x0A ∷ 0x00 ∷ 0x00 ∷ 0x00 ∷ 0x00 ∷ [])
    and 0x0A ∷ 0x00 ∷ 0x00 ∷ 0x00 ∷ 0x01 ∷ [] reads refused 2 1
    and 0x0A ∷ 0x00 ∷ 0x00 ∷ 0x00 ∷ 0x02 ∷ 0x04 ∷ [] reads refused 2 1
    and 0x12 ∷ [] reads accepted 1 (0x0D ∷ [])
    and 0x11 ∷ 0x05 ∷ [] reads accepted 1 (0x0D ∷ [])
    and 0x04 ∷ [] reads refused 3 0
    and 0x02 ∷ 0x00 ∷ 0x01 ∷ 0xFF ∷ [] reads refused 3 3
    and header whole accepted 23 shown incomplete accepted 23 shown
    and header ++ (0x00 ∷ 0x01 ∷ 0x62 ∷ 0x05 ∷ []) whole refused 3 23 incomplete accepted 23 shown
    and []

-- what the calls come to on a line's input
abbrev pub found : Example → Example
found (Example.value s w) = s reads read_of s 24
found (Example.rewritten s w) = s writes rewrite_of s 24 24
found (Example.file s w v) = s whole whole_of s 24 incomplete incomplete_of s 24

-- They come to what it says.
pub starred : map found table ≡ table
unfolding whole_of incomplete_of header_at element_at body_at zeros_at in_room bytes bytes_of size reading.value reading.items reading.pair reading.pairs reading.follow
    fields_at marker_of u8_at u16_at u24_at u32_at u64_at text_at str_at tag_at ends flag_at short_at long_at u16 u32 u64 flag short long zoned record_body_at record_at
    out.settled out.ended out.bytes row writing.value writing.items writing.pairs writing.dense writing.rest writing.value_at
starred = refl
