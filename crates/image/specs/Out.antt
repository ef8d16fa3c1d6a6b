-- A writing, with no word of room: the rows of bytes in the order in which they are put out, and how the writing ends.
use Rattle.std.specs.Prelude.{ℕ, ◌+◌, ◌≤◌, ◌≡◌, List, [], ◌++◌, Bool, false, length, drop, leb}
use Rattle.wire.specs.Answer.{denied}
use Rattle.wire.specs.Choice.{pick}
use Rattle.wire.specs.Bytes.{laid}
use Rattle.wire.specs.Field.{to}
use Rattle.wire.specs.Text.{inside_of, part_of}
use Rattle.wire.specs.Utf8.{utf8}
use Rattle.wire.specs.Limit as limit
use Rattle.wire.specs.declared.cursor.Cursor.{Cursor}
use Rattle.image.specs.Due.{Step, went_to}
use Rattle.image.specs.declared.record.Field.{Field}
use Rattle.image.specs.declared.writing.Row.{Row}
use Rattle.image.specs.declared.writing.Writing.{Writing}
use Rattle.image.specs.Record.{field_bytes}

pub data Out : Type 0 where
  -- written up to this place of the image
  end : (next : ℕ) → Out
  -- refused, by the record at this place
  stop : (answer place : ℕ) → Out
  -- bytes are put out, and then the rest
  put : (b : List ℕ) (rest : Out) → Out

-- one writing and then another, from where it ends
infixl 20 ◌>>=◌
abbrev pub ◌>>=◌ : Out → (ℕ → Out) → Out
end n >>= k = k n
stop a p >>= k = stop a p
put b d >>= k = put b (d >>= k)

-- ---- a row

abbrev pub row_of : Field → Field → Field → ℕ → ℕ → Row
row_of mark a b place n = record { mark = mark; a = a; b = b; place = place; length = n }

-- the numbers of a row
abbrev pub number_bytes : Field → Field → Field → List ℕ
number_bytes mark a b = field_bytes mark ++ (field_bytes a ++ field_bytes b)

-- the text that a row names
abbrev pub text_of : List ℕ → Row → List ℕ
text_of text r = part_of text r.place r.length

abbrev pub row_bytes : List ℕ → Row → List ℕ
row_bytes text r = field_bytes r.mark ++ (field_bytes r.a ++ (field_bytes r.b ++ text_of text r))

-- a text stands in the lent one and is UTF-8
abbrev pub named_at : List ℕ → ℕ → ℕ → Bool
named_at text place n = pick (inside_of text place n) (utf8 (part_of text place n)) false

abbrev pub named_of : List ℕ → Row → Bool
named_of text r = named_at text r.place r.length

-- a row of the record at a place is put out, or its text refuses it
unfoldable pub row : List ℕ → Row → ℕ → Out → Out
row text r at d = pick (named_of text r) (put (row_bytes text r) d) (stop 6 at)

-- no writing comes to more bytes
abbrev pub most : ℕ
most = 0x4000000000000000

-- the same behind so many bytes: a count past the most, or a number wider than eight bytes, is refused with 1
unfoldable pub row_in : ℕ → List ℕ → Row → ℕ → Out → Out
row_in count text r at d =
    pick (leb count most)
    (pick (leb r.mark.width 8)
    (pick (leb r.a.width 8)
    (pick (leb r.b.width 8) (row text r at d) (stop 1 0))
    (stop 1 0))
    (stop 1 0))
    (stop 1 0)

-- ---- a writing carried out

-- how a writing that was carried out went, and the output then
pub record Poured : Type 0 where
  pub step : Step
  pub out : List ℕ

abbrev pub poured : Step → List ℕ → Poured
poured x o = record { step = x; out = o }

-- The writing carried out on an output: each row is laid behind what is put out so far, where it has room; the count goes on where it has none.
unfoldable pub pour : Out → ℕ → List ℕ → Poured
pour (end n) count out = poured (went_to (to n) count) out
pour (stop a p) count out = poured (denied a p) out
pour (put b d) count out = pour d (count + length b) (laid b count out)

-- a step that goes on does so at a place, with no more than so many bytes put out
pub record Grown (x : Step) (next high : ℕ) : Type 0 where
  pub bounds : (c : Cursor) (n : ℕ) → x ≡ went_to c n → (c.at ≡ next) × (n ≤ high)

-- ---- what a writing comes to

unfoldable pub bytes : Out → List ℕ
bytes (end n) = []
bytes (stop a p) = []
bytes (put b d) = b ++ bytes d

-- a result, with the bytes that the output then begins with
pub record Written : Type 0 where
  pub writing : Writing
  pub bytes : List ℕ

abbrev pub written : List ℕ → Written
written b = record { writing = record { answer = 0; count = length b }; bytes = b }

abbrev pub unwritten : ℕ → Written
unwritten a = record { writing = record { answer = a; count = 0 }; bytes = [] }

-- bytes that are not refused: over the limit is 1, no room is 4
abbrev pub sized : List ℕ → ℕ → Written
sized b room = pick (leb (length b) limit.bytes) (pick (leb (length b) room) (written b) (unwritten 4)) (unwritten 1)

-- how a writing ends, whose bytes are b
unfoldable pub ended : Out → List ℕ → ℕ → Written
ended (end n) b room = sized b room
ended (stop a p) b room = unwritten a
ended (put x d) b room = ended d b room

unfoldable pub settled : Out → ℕ → Written
settled d room = ended d (bytes d) room

-- the output: the result's bytes, and behind them what stood there
abbrev pub onto : List ℕ → List ℕ → List ℕ
onto b out = b ++ drop (length b) out
