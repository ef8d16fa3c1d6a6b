-- The packet of the rule "Examples" (docs/DEMANDS.md), and packets near it: read whole, cut, and read by entry and by span, two tables that the checker computes.
use Rattle.std.specs.Prelude.{ℕ, zero, suc, ◌≡◌, refl, List, [], ◌∷◌, map}
use Rattle.wire.specs.Utf8.{ends}
use Rattle.wire.specs.Field.{u8_at, u16_at, u32_at, u64_at, str_at, text_at, tag_at}
use Rattle.image.specs.Record.{bytes_of, size}
use Rattle.image.specs.Whole.{Whole, accepted, refused, in_room}
use Rattle.amf0.specs.Marker.{marker_of}
use Rattle.amf0.specs.Fields.{fields_at}
use Rattle.amf0.specs.Reading.{items, pair, pairs, follow, value, value_in}
use Rattle.packet.specs.declared.head.Entry.{Entry}
use Rattle.packet.specs.declared.entry.Cutting.{Cutting}
use Rattle.packet.specs.Head.{version_at, front_of, header_at, message_at}
use Rattle.packet.specs.Reading.{entries_at, packet_at, incomplete_of, whole_of}
use Rattle.packet.specs.Entry.{entry_at, walk, cut_of, list_of, read_span, read_entry}

-- an input, and what each call comes to on it, in a room of 24 bytes or a list of one entry: the whole reading, the incomplete one, the cut, and entry 0
record Example : Type 0 where
  input : List ℕ
  whole : Whole
  incomplete : Whole
  cut : Cutting
  entry : Whole

infix 1 ◌whole◌part◌cut◌entry◌
abbrev ◌whole◌part◌cut◌entry◌ : List ℕ → Whole → Whole → Cutting → Whole → Example
s whole w part i cut c entry e = record { input = s; whole = w; incomplete = i; cut = c; entry = e }

infixr 0 ◌and◌
abbrev ◌and◌ : {A : Type 0} → A → List A → List A
e and es = e ∷ es

-- a cut of so many bytes with so many entries, and one that is refused with an answer at a place
abbrev cutting : ℕ → ℕ → Cutting
cutting u n = record { answer = 0; used = u; count = n }

abbrev uncut : ℕ → ℕ → Cutting
uncut a p = record { answer = a; used = p; count = 0 }

-- an input that every call refuses alike
infix 1 ◌refused_by◌at◌
abbrev ◌refused_by◌at◌ : List ℕ → ℕ → ℕ → Example
s refused_by a at p = s whole refused a p part refused a p cut uncut a p entry refused a p

-- so many messages, which these bytes are
abbrev messages : ℕ → List ℕ → List ℕ
messages n x = 0x00 ∷ 0x00 ∷ 0x00 ∷ 0x00 ∷ 0x00 ∷ n ∷ x

-- a message "a" whose value is declared to have one byte, or a length that is not known, and then these bytes
abbrev one_byte : List ℕ → List ℕ
one_byte x = 0x00 ∷ 0x01 ∷ 0x61 ∷ 0x00 ∷ 0x00 ∷ 0x00 ∷ 0x00 ∷ 0x00 ∷ 0x01 ∷ x

abbrev not_known : List ℕ → List ℕ
not_known x = 0x00 ∷ 0x01 ∷ 0x61 ∷ 0x00 ∷ 0x00 ∷ 0xFF ∷ 0xFF ∷ 0xFF ∷ 0xFF ∷ x

abbrev message : List ℕ → List ℕ
message v = messages 1 (one_byte v)

abbrev measured : List ℕ → List ℕ
measured v = messages 1 (not_known v)

-- so many objects, each in a pair with an empty key of the one round it, and in the last a null
abbrev nested : ℕ → List ℕ
nested zero = 0x05 ∷ []
nested (suc n) = 0x03 ∷ 0x00 ∷ 0x00 ∷ nested n

abbrev null : List ℕ
null = message (0x05 ∷ [])

abbrev shown : List ℕ
shown =
    0x30 ∷ 0x00 ∷ 0x00 ∷ 0x00 ∷ 0x01 ∷ 0x32 ∷ 0x00 ∷ 0x00 ∷ 0x08 ∷ 0x00 ∷ 0x01 ∷ 0x00 ∷ 0x00 ∷ 0x0B ∷ 0x00 ∷ 0x00 ∷ 0x05 ∷ []

abbrev table : List Example
table =
    null whole accepted 16 shown part accepted 16 shown cut cutting 16 1 entry accepted 1 (0x05 ∷ [])
    and message (0x04 ∷ []) whole refused 3 15 part refused 3 15 cut cutting 16 1 entry refused 9 15
    and message (0x05 ∷ 0x05 ∷ []) whole refused 3 16 part accepted 16 shown cut uncut 3 16 entry refused 3 16
    and message [] whole refused 2 15 part refused 2 15 cut uncut 2 11 entry refused 2 11
    and 0x00 ∷ 0x00 ∷ 0x00 ∷ 0x00 ∷ 0x00 ∷ 0x00 ∷ []
    whole accepted 6 (0x30 ∷ 0x00 ∷ 0x00 ∷ 0x00 ∷ 0x00 ∷ [])
    part accepted 6 (0x30 ∷ 0x00 ∷ 0x00 ∷ 0x00 ∷ 0x00 ∷ [])
    cut cutting 6 0
    entry refused 8 0
    and 0x00 ∷ 0x03 ∷ [] refused_by 7 at 1
    and 0x00 ∷ 0x01 ∷ [] refused_by 3 at 1
    -- a value is measured: it is a null, no value, nothing, and a null before bytes that are left over
    and measured (0x05 ∷ []) whole accepted 16 shown part accepted 16 shown cut cutting 16 1 entry accepted 1 (0x05 ∷ [])
    and measured (0x04 ∷ []) refused_by 3 at 15
    and measured [] refused_by 2 at 15
    and measured (0x05 ∷ 0x05 ∷ []) whole refused 3 16 part accepted 16 shown cut uncut 3 16 entry refused 3 16
    -- it is too deep, though the whole reading comes to the end of its room first
    and measured (nested 32) whole refused 4 19 part refused 4 19 cut uncut 5 111 entry refused 5 111
    -- FFFFFFFE is a length like any other
    and messages 1 (0x00 ∷ 0x01 ∷ 0x61 ∷ 0x00 ∷ 0x00 ∷ 0xFF ∷ 0xFF ∷ 0xFF ∷ 0xFE ∷ 0x05 ∷ [])
    whole accepted 16 shown
    part accepted 16 shown
    cut uncut 2 11
    entry refused 2 11
    -- behind a value that was measured the next entry stands, with a length that is too large
    and messages 2 (not_known (0x05 ∷ one_byte [])) whole refused 4 16 part refused 4 16 cut uncut 2 21 entry refused 2 21
    and []

abbrev found : List ℕ → Example
found s = s whole whole_of s 24 part incomplete_of s 24 cut (list_of s 1).cutting entry read_entry s 0 24

pub examples : map (λ e. found e.input) table ≡ table
unfolding whole_of incomplete_of packet_at entries_at version_at header_at message_at front_of cut_of list_of walk entry_at value_in read_entry in_room bytes_of size value items
    pair pairs follow fields_at marker_of u8_at u16_at u32_at u64_at text_at str_at tag_at ends
examples = refl

-- the lengths in the list where values are measured: a null, and then a text of one letter
pub lengths : map (λ (e : Entry). e.length) (list_of (messages 2 (not_known (0x05 ∷ not_known (0x02 ∷ 0x00 ∷ 0x01 ∷ 0x61 ∷ [])))) 2).entries ≡ 1 ∷ 4 ∷ []
unfolding version_at header_at message_at front_of cut_of list_of walk entry_at value_in value items pair pairs follow fields_at marker_of u8_at u16_at u32_at u64_at text_at str_at tag_at
    ends
lengths = refl

-- ---- a span of the first packet: its last byte, one byte more, nothing behind it, and past its end

record Span : Type 0 where
  place : ℕ
  size : ℕ
  result : Whole

infix 1 ◌for◌gives◌
abbrev ◌for◌gives◌ : ℕ → ℕ → Whole → Span
p for n gives w = record { place = p; size = n; result = w }

abbrev spans_table : List Span
spans_table =
    15 for 1 gives accepted 1 (0x05 ∷ [])
    and 15 for 2 gives refused 8 0
    and 16 for 0 gives refused 9 16
    and 16 for 1 gives refused 8 0
    and 17 for 0 gives refused 8 0
    and []

pub spans : map (λ x. x.place for x.size gives read_span null x.place x.size 24) spans_table ≡ spans_table
unfolding read_span in_room bytes_of size value items pair pairs follow fields_at marker_of u8_at u16_at u32_at u64_at text_at str_at ends
spans = refl
