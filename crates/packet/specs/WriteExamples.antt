-- Two packets, read whole and written back in both settings, one table that the checker computes. The first is that of the rule "Examples" (docs/DEMANDS.md).
use Rattle.std.specs.Prelude.{ℕ, ◌≡◌, refl, List, [], ◌∷◌, ◌++◌, map, Bool, true, false}
use Rattle.wire.specs.Utf8.{ends}
use Rattle.wire.specs.Field.{u8_at, u16_at, u24_at, u32_at, u64_at, str_at, text_at, tag_at}
use Rattle.image.specs.Record.{bytes_of, size}
use Rattle.image.specs.Whole.{in_room}
use Rattle.image.specs.Taking.{flag_at, short_at, long_at, u16, u32, u64, flag, short, long, zoned, body_at, record_at}
use Rattle.image.specs.Out as out
use Rattle.image.specs.Out.{Written, written, row}
use Rattle.amf0.specs.Marker.{marker_of}
use Rattle.amf0.specs.Fields.{fields_at}
use Rattle.amf0.specs.Reading.{items, pair, pairs, follow, value}
use Rattle.amf0.specs.Writing as writing
use Rattle.packet.specs.Head.{version_at, header_at, message_at}
use Rattle.packet.specs.Reading.{entries_at, packet_at, incomplete_of, whole_of}
use Rattle.packet.specs.Writing.{label, entry, entries, packet}
use Rattle.packet.specs.Written.{rewrite_of}

-- an input, the setting, and what writing what was read of it comes to in a room of 40 bytes
record Example : Type 0 where
  input : List ℕ
  setting : Bool
  result : Written

infix 1 ◌exact◌gives◌
abbrev ◌exact◌gives◌ : List ℕ → Bool → Written → Example
s exact e gives w = record { input = s; setting = e; result = w }

infixr 0 ◌and◌
abbrev ◌and◌ : Example → List Example → List Example
e and es = e ∷ es

-- a message "a" with a null, behind a length
abbrev null : List ℕ → List ℕ
null l = 0x00 ∷ 0x00 ∷ 0x00 ∷ 0x00 ∷ 0x00 ∷ 0x01 ∷ 0x00 ∷ 0x01 ∷ 0x61 ∷ 0x00 ∷ 0x00 ∷ l ++ (0x05 ∷ [])

-- a header "b" with a flag and the boolean c, and a message "a" with the text of t, each behind a length
abbrev two : (flag : ℕ) → List ℕ → (c : ℕ) → List ℕ → (t : List ℕ) → List ℕ
two f l c m t =
    0x00 ∷ 0x00 ∷ 0x00 ∷ 0x01 ∷ 0x00 ∷ 0x01 ∷ 0x62 ∷ f ∷ l
    ++ (0x01 ∷ c ∷ 0x00 ∷ 0x01 ∷ 0x00 ∷ 0x01 ∷ 0x61 ∷ 0x00 ∷ 0x00 ∷ m ++ t)

-- "hi", in the long form and in the short one
abbrev hi : List ℕ
hi = 0x0C ∷ 0x00 ∷ 0x00 ∷ 0x00 ∷ 0x02 ∷ 0x68 ∷ 0x69 ∷ []

abbrev hi_short : List ℕ
hi_short = 0x02 ∷ 0x00 ∷ 0x02 ∷ 0x68 ∷ 0x69 ∷ []

abbrev long_of : ℕ → List ℕ
long_of n = 0x00 ∷ 0x00 ∷ 0x00 ∷ n ∷ []

abbrev unknown : List ℕ
unknown = 0xFF ∷ 0xFF ∷ 0xFF ∷ 0xFF ∷ []

abbrev table : List Example
table =
    null (long_of 1) exact true gives written (null (long_of 1))
    and null (long_of 7) exact true gives written (null (long_of 1))
    and null (long_of 1) exact false gives written (null unknown)
    and two 2 (long_of 9) 2 unknown hi exact true gives written (two 1 (long_of 2) 1 (long_of 5) hi_short)
    and two 2 (long_of 9) 2 unknown hi exact false gives written (two 1 unknown 1 unknown hi_short)
    and two 0 (long_of 9) 0 unknown hi exact true gives written (two 0 (long_of 2) 0 (long_of 5) hi_short)
    and []

pub examples : map (λ e. rewrite_of whole_of e.input 60 e.setting 40) table ≡ map (λ e. e.result) table
unfolding whole_of incomplete_of packet_at entries_at version_at header_at message_at in_room bytes_of size value items pair pairs follow
    fields_at marker_of u8_at u16_at u24_at u32_at u64_at text_at str_at tag_at ends flag_at short_at long_at u16 u32 u64 flag short long zoned body_at record_at out.settled
    out.ended out.bytes row writing.value writing.items writing.pairs writing.dense writing.rest writing.value_at label entry entries packet
examples = refl
