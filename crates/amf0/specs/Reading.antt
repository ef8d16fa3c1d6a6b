-- What reading a value finds, from a place of an input on: the rule "Reading one value" (docs/DEMANDS.md). `left` is how many levels are left.
use Rattle.std.specs.Prelude.{ℕ, zero, suc, ◌+◌, ◌-◌, List, length, leb, eqb}
use Rattle.wire.specs.Choice.{pick}
use Rattle.wire.specs.Field.{bytes_at, u8_at, text_at, got, got_text}
use Rattle.wire.specs.Limit as limit
use Rattle.image.specs.declared.record.Record.TheVariants.{ObjectEnd, Key}
use Rattle.image.specs.Due.{Due, Fact, end, stop, seen, due, ◌>>=◌, based}
use Rattle.image.specs.Due.Fact.{own, dropped}
use Rattle.image.specs.Whole.{Whole, settled, refused}
use Rattle.amf0.specs.declared.read.Follow.{Follow}
use Rattle.amf0.specs.declared.read.Follow.TheVariants.{Nothing, Pairs, Values}
use Rattle.amf0.specs.Marker.{marker_of}
use Rattle.amf0.specs.Fields.{behind, got_fields, shut}

-- n values in a row, each read by `value`
unfoldable pub items : (ℕ → Due) → ℕ → ℕ → Due
items value zero at = end at
items value (suc n) at = value at >>= items value n

-- what follows a key of n bytes at p that begins with its length at `at` and ends at q: the end marker, and the key is dropped; or the key's value, and
-- what comes after it
unfoldable pub pair : (ℕ → Due) → (ℕ → Due) → List ℕ → ℕ → ℕ → ℕ → ℕ → Due
pair value more s at p n q =
    got stop (u8_at s q) λ m e.
    pick (eqb m 9) (seen (dropped n) (due ObjectEnd q (end e))) (due (Key p n) at (value q >>= more))

-- pairs up to the end marker; each takes bytes, so the input's length bounds their number
unfoldable pub pairs : (ℕ → Due) → List ℕ → ℕ → ℕ → Due
pairs value s zero at = stop 2 at
pairs value s (suc fuel) at = got_text stop (text_at 2 s at) (pair value (pairs value s fuel) s at)

-- what follows a value's own fields
unfoldable pub follow : (ℕ → Due) → List ℕ → Follow → ℕ → Due
follow value s Nothing at = end at
follow value s Pairs at = pairs value s (length s) at
follow value s (Values n) at = items value n at

-- what is seen of a value whose marker and own fields stand from `at` to q
abbrev pub own_at : ℕ → List ℕ → ℕ → ℕ → Fact
own_at left s at q = own left (bytes_at (q - at) s at)

-- a value: its marker, its own fields, its record, and what follows
unfoldable pub value : ℕ → List ℕ → ℕ → Due
value zero s at = got stop (u8_at s at) λ m p. stop (shut (marker_of m)) at
value (suc left) s at =
    got stop (u8_at s at) λ m p.
    got_fields stop (behind s at p (marker_of m)) λ r f q.
    seen (own_at left s at q) (due r at (follow (value left s) s f q))

-- the value at a place, with every level left
abbrev pub top_value : List ℕ → ℕ → Due
top_value s at = value limit.levels s at

-- the value at a place of a part that begins at the place `base` of an input; a part over the limit, or a place past its end, is refused with 1
unfoldable pub value_in : ℕ → List ℕ → ℕ → Due
value_in base s at =
    pick (leb (base + length s) limit.bytes)
    (pick (leb at (length s)) (based base (top_value s at)) (stop 1 0))
    (stop 1 0)

-- what the public call comes to, in a room
abbrev pub read_of : List ℕ → ℕ → Whole
read_of s room = pick (leb (length s) limit.bytes) (settled (top_value s 0) room) (refused 1 0)
