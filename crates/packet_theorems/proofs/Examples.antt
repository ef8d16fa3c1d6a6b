-- Demand 3 at the packet of the rule "Examples" (docs/DEMANDS.md), a message "a" with the value 05, and at that packet with its last byte bent to 04.
use Rattle.std.specs.Prelude.{◌<◌, ◌≤◌, ◌≡◌, ◌⊎◌, ◌∷◌, ◌++◌}
use Rattle.wire.proofs.Kit.{ℕ, refl, sym, ◌∙◌, inl, inr, List, [], arith, get_or, List·getD-eq-default}
use lib.ListN.{get_or-append}
use Rattle.wire.specs.Number.{digits}
use Rattle.wire.specs.Utf8.{ends}
use Rattle.wire.specs.Field.{u8_at, u16_at, u32_at, str_at, text_at, tag_at}
use Rattle.image.specs.Record.{bytes_of, size}
use Rattle.image.specs.Whole.{accepted, refused, in_room}
use Rattle.amf0.specs.Standard.{Item, Tree, Encodes, Row}
use Rattle.amf0.specs.Standard.UTF-8.{short}
use Rattle.amf0.specs.Reading.{value, follow, value_in}
use Rattle.amf0.specs.Fields.{fields_at}
use Rattle.amf0.specs.Marker.{marker_of}
use Rattle.packet.specs.declared.head.Entry.{Entry}
use Rattle.packet.specs.Head.{unknown, version_at, front_of, entry, header_at, message_at}
use Rattle.packet.specs.Packet as packet
use Rattle.packet.specs.Reading.{entries_at, packet_at, incomplete_of, whole_of}
use Rattle.packet.specs.Entry.{found, stops, entry_at, walk, cut_of, read_entry}
use Rattle.packet.specs.Change.{known_spans, Agrees, Keeps}
use Rattle.packet_theorems.specs.Cuts.{Says, Slices, Cuts, Exact}
use Rattle.packet_theorems.proofs.Demand3.{demand3}
use Rattle.amf0.specs.Span.{Changed}

abbrev front : List ℕ
front = 0 ∷ 0 ∷ 0 ∷ 0 ∷ 0 ∷ 1 ∷ 0 ∷ 1 ∷ 0x61 ∷ 0 ∷ 0 ∷ 0 ∷ 0 ∷ 0 ∷ 1 ∷ []

abbrev good : List ℕ
good = front ++ (0x05 ∷ [])

abbrev bent : List ℕ
bent = front ++ (0x04 ∷ [])

abbrev entries : List Entry
entries = entry 0x32 0 0x08 1 0x0B 0 0x0F 1 ∷ []

cut : cut_of good ≡ found entries 16
unfolding front_of cut_of walk entry_at version_at header_at message_at u8_at u16_at u32_at str_at text_at tag_at ends
cut = refl

-- the whole reading accepts it in a room of 17 bytes
whole : (whole_of good 17).reading.answer ≡ 0
unfolding whole_of incomplete_of packet_at entries_at version_at header_at message_at u8_at u16_at u32_at str_at text_at tag_at ends in_room value follow fields_at marker_of bytes_of size
whole = refl

-- such a packet, with what its length says
exact : (d : ℕ) → Says d (0x05 ∷ []) → Exact (0 ∷ 0 ∷ 0 ∷ 0 ∷ 0 ∷ 1 ∷ 0 ∷ 1 ∷ 0x61 ∷ 0 ∷ 0 ∷ (digits 4 d ++ (0x05 ∷ [])))
unfolding ends
exact d said =
    record {
      headers = [];
      messages = record { label = packet.Label.message (0x61 ∷ []) []; value = 0x05 ∷ [] } ∷ [];
      cuts =
          Cuts.packet {hs = []} {ms = record { label = packet.Label.message (0x61 ∷ []) []; value = 0x05 ∷ [] } ∷ []} (omega arith) (omega arith) Slices.none
          (Slices.more {d = d} {y = 0x05 ∷ []} tt (packet.Head.message (short (0x61 ∷ []) (omega arith) refl) (short [] (omega arith) refl)) said Slices.none);
      header_values = tt;
      message_values = ((Tree.node Item.null Tree.nil, Encodes.node Row.null Encodes.nil), tt);
    }

-- so reading by entry agrees with it
pub agrees : Agrees good 17
agrees = demand3.agreed good 17 (omega arith) (exact 1 (Says.known {y = 0x05 ∷ []} (omega arith))) whole

-- its entry is the null, and the bent one is damaged, both in a room of a byte
pub accepts : read_entry good 0 1 ≡ accepted 1 (0x05 ∷ [])
unfolding read_entry front_of cut_of walk entry_at version_at header_at message_at u8_at u16_at u32_at str_at text_at tag_at ends in_room value follow fields_at marker_of bytes_of size
accepts = refl

pub damaged : read_entry bent 0 1 ≡ refused 9 15
unfolding read_entry front_of cut_of walk entry_at version_at header_at message_at u8_at u16_at u32_at str_at text_at tag_at ends in_room value follow fields_at marker_of bytes_of size
damaged = refl

-- and the bent packet is the other with a byte in its value changed, and keeps what is beside
changed : Changed (known_spans good entries) good bent
changed = record { long = refl; same = λ i b. go i b.0 }
  where
    go : (i : ℕ) → (i < 15) ⊎ (16 ≤ i) → get_or bent i 0 ≡ get_or good i 0
    go i (inl h) = get_or-append front (0x04 ∷ []) 0 i h ∙ sym (get_or-append front (0x05 ∷ []) 0 i h)
    go i (inr h) = List·getD-eq-default bent 0 h ∙ sym (List·getD-eq-default good 0 h)

pub keeps : Keeps good bent entries
keeps = demand3.kept good bent entries 16 (omega arith) cut changed

-- ---- the same packet with a length that is not known

abbrev unsaid : List ℕ
unsaid = 0 ∷ 0 ∷ 0 ∷ 0 ∷ 0 ∷ 1 ∷ 0 ∷ 1 ∷ 0x61 ∷ 0 ∷ 0 ∷ 0xFF ∷ 0xFF ∷ 0xFF ∷ 0xFF ∷ []

-- it is cut into the same entry, with the length that its value is measured to have
measured : cut_of (unsaid ++ (0x05 ∷ [])) ≡ found entries 16
unfolding front_of cut_of walk entry_at version_at header_at message_at u8_at u16_at u32_at str_at text_at tag_at ends value_in value follow fields_at marker_of
measured = refl

-- no byte of it can be changed and leave the others as they are: a value there that cannot be read refuses the cut, at its own place
pub none_known : known_spans (unsaid ++ (0x05 ∷ [])) entries ≡ []
none_known = refl

pub refuses : cut_of (unsaid ++ (0x04 ∷ [])) ≡ stops 3 15
unfolding front_of cut_of walk entry_at version_at header_at message_at u8_at u16_at u32_at str_at text_at tag_at ends value_in value follow fields_at marker_of
refuses = refl

-- the whole reading accepts it too, and reading by entry agrees
whole_too : (whole_of (unsaid ++ (0x05 ∷ [])) 17).reading.answer ≡ 0
unfolding whole_of incomplete_of packet_at entries_at version_at header_at message_at u8_at u16_at u32_at str_at text_at tag_at ends in_room value follow fields_at marker_of bytes_of size
whole_too = refl

pub agrees_too : Agrees (unsaid ++ (0x05 ∷ [])) 17
agrees_too =
    demand3.agreed (unsaid ++ (0x05 ∷ [])) 17 (omega arith)
    (exact unknown (Says.measured (record { tree = Tree.node Item.null Tree.nil; encodes = Encodes.node Row.null Encodes.nil; deep = omega arith }))) whole_too
