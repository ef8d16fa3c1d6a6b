-- The fields of a packet round its values: the rule "Packet" (docs/DEMANDS.md).
use Rattle.std.specs.Prelude.{ℕ, List, [], ◌∷◌, length, leb, ltb, eqb, Result, Ok}
use Rattle.wire.specs.Choice.{pick}
use Rattle.wire.specs.Limit as limit
use Rattle.wire.specs.Field.{to, u8_at, u16_at, u32_at, text_at, tag_at, Parsed, got_to, got, got_text, past_tag}
use Rattle.wire.specs.Answer.{Verdict, denied}
use Rattle.wire.specs.declared.cursor.Cursor.{Cursor}
use Rattle.packet.specs.declared.head.Entry.{Entry}
use Rattle.image.specs.Kind as kind

-- a zero, and the version: 00, and 03 gives 7
unfoldable pub version_at : List ℕ → Result Cursor Verdict
version_at s =
    past_tag denied (tag_at (0 ∷ []) s 0) λ p.
    got denied (u8_at s p) λ v q.
    pick (eqb v 0) (Ok (to q)) (pick (eqb v 3) (denied 7 p) (denied 3 p))

-- the front: the version, and the count of headers
unfoldable pub front_of : List ℕ → Parsed ℕ
front_of s = pick (leb (length s) limit.bytes) (past_tag denied (version_at s) λ p. u16_at s p) (denied 1 0)

-- the length that says that it is not known
abbrev pub unknown : ℕ
unknown = 0xFFFFFFFF

abbrev pub bit_of : ℕ → ℕ
bit_of f = pick (ltb 0 f) 1 0

abbrev pub entry : ℕ → ℕ → ℕ → ℕ → ℕ → ℕ → ℕ → ℕ → Entry
entry kind flag p n q m v l =
    record {
      kind = kind;
      flag = flag;
      place1 = p;
      length1 = n;
      place2 = q;
      length2 = m;
      place = v;
      length = l;
    }

-- an entry's fields before its value
abbrev pub Head : Type 0
Head = Parsed Entry

-- a header before its value: its name, its flag, true if not 0, and the length that it declares
unfoldable pub header_at : List ℕ → ℕ → Head
header_at s at =
    got_text denied (text_at 2 s at) λ p n q.
    got denied (u8_at s q) λ f e.
    got denied (u32_at s e) λ l v.
    got_to (entry kind.header (bit_of f) p n 0 0 v l) (to v)

-- a message before its value: its target, its response, and the length that it declares
unfoldable pub message_at : List ℕ → ℕ → Head
message_at s at =
    got_text denied (text_at 2 s at) λ p n e.
    got_text denied (text_at 2 s e) λ q m f.
    got denied (u32_at s f) λ l v.
    got_to (entry kind.message 0 p n q m v l) (to v)

-- the head of an entry of a kind: a header's, or else a message's
abbrev pub head_at : ℕ → List ℕ → ℕ → Head
head_at k s at = pick (eqb k kind.header) (header_at s at) (message_at s at)
