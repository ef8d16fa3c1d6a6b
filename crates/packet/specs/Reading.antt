-- What reading a whole packet finds, and what it comes to in a room: the rule "Packet" (docs/DEMANDS.md).
use Rattle.std.specs.Prelude.{ℕ, zero, suc, List, length, leb, eqb}
use Rattle.wire.specs.Choice.{pick}
use Rattle.wire.specs.Limit as limit
use Rattle.wire.specs.Field.{u16_at, got, past_tag}
use Rattle.image.specs.declared.record.Record.{Record}
use Rattle.image.specs.declared.record.Record.TheVariants.{Packet, Header, Message}
use Rattle.image.specs.Kind as kind
use Rattle.image.specs.Due.{Due, end, stop, seen, due, ◌>>=◌}
use Rattle.image.specs.Whole.{Whole, settled, refused, all}
use Rattle.amf0.specs.Reading.{top_value}
use Rattle.packet.specs.declared.head.Entry.{Entry}
use Rattle.packet.specs.Head.{version_at, head_at}

-- the record of an entry
abbrev pub record_of : Entry → Record
record_of e =
    pick (eqb e.kind kind.header)
    (Header e.place1 e.length1 (eqb e.flag 1))
    (Message e.place1 e.length1 e.place2 e.length2)

-- n entries of a kind: the record is due after the length field, which is not looked at, and then the value is read
unfoldable pub entries_at : ℕ → List ℕ → ℕ → ℕ → Due
entries_at kind s zero at = end at
entries_at kind s (suc n) at =
    got stop (head_at kind s at) λ e v. due (record_of e) at (top_value s v >>= entries_at kind s n)

-- the count of messages, behind the headers; 0 where it can't be read, since the reading is refused then
abbrev pub count_after : List ℕ → Due → ℕ
count_after s (end n) = got (λ a p. 0) (u16_at s n) λ m p. m
count_after s (stop a p) = 0
count_after s (seen fact d) = count_after s d
count_after s (due r p d) = count_after s d

-- behind the front, h headers from a place on: the packet's record has both counts, and is due after the count of headers
abbrev pub body_at : List ℕ → ℕ → ℕ → Due
body_at s h q =
    due (Packet h (count_after s (entries_at kind.header s h q))) 0
    (entries_at kind.header s h q >>= λ e. got stop (u16_at s e) λ m f. entries_at kind.message s m f)

unfoldable pub packet_at : List ℕ → Due
packet_at s = past_tag stop (version_at s) λ p. got stop (u16_at s p) (body_at s)

unfoldable pub incomplete_of : List ℕ → ℕ → Whole
incomplete_of s room = pick (leb (length s) limit.bytes) (settled (packet_at s) room) (refused 1 0)

-- the whole reading: bytes left over are 3, after everything else
unfoldable pub whole_of : List ℕ → ℕ → Whole
whole_of s room = all s (incomplete_of s room)
