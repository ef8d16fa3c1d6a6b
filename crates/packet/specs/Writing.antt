-- What writing a packet puts out: the rules "Packet", "Writing checks first" and "What is written" (docs/DEMANDS.md).
use Rattle.std.specs.Prelude.{ℕ, zero, suc, List, Bool, length, leb, eqb}
use Rattle.wire.specs.Choice.{pick}
use Rattle.wire.specs.Limit as limit
use Rattle.image.specs.declared.record.Field.{Field}
use Rattle.image.specs.declared.record.Layout.{Layout}
use Rattle.image.specs.Kind as kind
use Rattle.image.specs.Record.{◌bytes◌, none}
use Rattle.image.specs.Out.{Out, end, ◌>>=◌, row_of, row, bytes as bytes_out, Written, unwritten, settled}
use Rattle.amf0.specs.Writing.{texted, top_value, asked, whole}
use Rattle.packet.specs.Head.{unknown}

-- a text behind its length
abbrev pub short : List ℕ → ℕ → ℕ → ℕ → Out → Out
short text p n at d = row text (texted none 2 p n) at d

-- a number in so many bytes
abbrev pub numbered : List ℕ → Field → ℕ → Out → Out
numbered text f at d = row text (row_of f none none 0 0) at d

-- an entry's name or target, and then a header's flag or a message's response
abbrev pub labelled : List ℕ → (due at : ℕ) → Layout → Out → Out
labelled text due at l d =
    short text l.a.number l.b.number at
    (pick (eqb due kind.header) (numbered text (1 bytes l.c.number) at d) (short text l.c.number l.d.number at d))

-- the label of the entry at a place, and where its value's record begins
unfoldable pub label : ℕ → List ℕ → List ℕ → ℕ → Out
label due image text at = asked image due at λ l q. labelled text due at l (end q)

-- the length that an entry declares: the true one, or that it is not known
abbrev pub declared : Bool → ℕ → ℕ
declared exact n = pick exact n unknown

-- an entry: its label, its length and its value
unfoldable pub entry : ℕ → Bool → List ℕ → List ℕ → ℕ → Out
entry kind exact image text at =
    label kind image text at >>= λ q.
    numbered text (4 bytes (declared exact (length (bytes_out (top_value image text q))))) at (top_value image text q)

-- n entries of a kind
unfoldable pub entries : ℕ → Bool → List ℕ → List ℕ → ℕ → ℕ → Out
entries kind exact image text zero at = end at
entries kind exact image text (suc n) at = entry kind exact image text at >>= entries kind exact image text n

-- a zero and the version, the count of headers and the headers, the count of messages and the messages
unfoldable pub packet : Bool → List ℕ → List ℕ → Out
packet exact image text =
    asked image kind.packet 0 λ own q.
    row text (row_of (2 bytes 0) (2 bytes own.a.number) none 0 0) 0
    (entries kind.header exact image text own.a.number q >>= λ e.
    row text (row_of none (2 bytes own.b.number) none 0 0) 0 (entries kind.message exact image text own.b.number e))

-- what the public call comes to, in a room
abbrev pub write_of : List ℕ → List ℕ → Bool → ℕ → Written
write_of image text exact room =
    pick (leb (length text) limit.bytes)
    (pick (leb (length image) limit.image) (settled (whole image (packet exact image text)) room) (unwritten 1))
    (unwritten 1)
