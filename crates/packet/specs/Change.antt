-- What a packet with other bytes in its values keeps, and what its entries answer against the value reader and against the whole reading: what demand 3 speaks of.
use Rattle.std.specs.Prelude.{ℕ, suc, ◌-◌, ◌≤◌, ◌<◌, ◌≡◌, List, [], ◌∷◌, ◌++◌, Bool, true, false, length, get_or, eqb}
use Rattle.wire.specs.Choice.{pick}
use Rattle.wire.specs.Number.{number}
use Rattle.wire.specs.Field.{bytes_at}
use Rattle.image.specs.declared.record.Record.TheVariants as R
use Rattle.image.specs.Record.{bytes_of}
use Rattle.image.specs.Whole.{accepted, refused}
use Rattle.amf0.specs.Reading.{read_of}
use Rattle.amf0.specs.Span.{Span, Judged}
use Rattle.packet.specs.declared.head.Entry.{Entry}
use Rattle.packet.specs.Head.{unknown}
use Rattle.packet.specs.Reading.{record_of, whole_of}
use Rattle.packet.specs.Entry.{found, cut_of, no_entry, span, span_of, read_entry}

-- the length field of an entry, four bytes before its value, says how long that is
abbrev pub known : List ℕ → Entry → Bool
known s e = pick (eqb (number (bytes_at 4 s (e.place - 4))) unknown) false true

-- the spans of the values whose length is known: what may be changed
abbrev pub known_spans : List ℕ → List Entry → List Span
known_spans s [] = []
known_spans s (e ∷ es) = pick (known s e) (span e ∷ known_spans s es) (known_spans s es)

-- the image of entries that are read one by one, the first of which has the number k: each entry's record, and then what reading that entry gives
abbrev pub images_from : List ℕ → ℕ → ℕ → List Entry → List ℕ
images_from s room k [] = []
images_from s room k (e ∷ es) = bytes_of (record_of e) ++ ((read_entry s k room).bytes ++ images_from s room (suc k) es)

-- reading by entry gives what the whole reading gives, in a room: the packet is cut into its headers and messages, each entry is accepted, and its image
-- stands, behind its record, in the whole image
pub record Agrees (s : List ℕ) (room : ℕ) : Type 0 where
  pub headers : List Entry
  pub messages : List Entry
  pub cut : cut_of s ≡ found (headers ++ messages) (length s)
  pub accepts : (k : ℕ) → k < length (headers ++ messages)
      → read_entry s k room ≡ accepted (get_or (headers ++ messages) k no_entry).length (read_entry s k room).bytes
  pub image : (whole_of s room).bytes ≡ bytes_of (R.Packet (length headers) (length messages)) ++ images_from s room 0 (headers ++ messages)

-- what the changed packet t keeps of s, which is cut into the entries es, and what its changed values answer
pub record Keeps (s t : List ℕ) (es : List Entry) : Type 0 where
  -- every flag, every place and length of a text, and every span
  pub cut : cut_of t ≡ cut_of s
  -- every name and address: the bytes of the texts themselves
  pub first : (k : ℕ) → k < length es → let e = get_or es k no_entry in bytes_at e.length1 t e.place1 ≡ bytes_at e.length1 s e.place1
  pub second : (k : ℕ) → k < length es → let e = get_or es k no_entry in bytes_at e.length2 t e.place2 ≡ bytes_at e.length2 s e.place2
  -- every untouched value, in every room
  pub untouched : (k room : ℕ) → span_of t (get_or es k no_entry) ≡ span_of s (get_or es k no_entry) → read_entry t k room ≡ read_entry s k room
  -- every other value answers by its own bytes
  pub changed : (k room : ℕ) → k < length es → let e = get_or es k no_entry in
      Judged e.place (span_of t e) (read_of (span_of t e) room) (read_entry t k room)
  -- and there are no more entries
  pub past : (k room : ℕ) → length es ≤ k → read_entry t k room ≡ refused 8 0
