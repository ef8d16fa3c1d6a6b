-- What writing a value puts out, from a place of an image on: the rules "Writing checks first" and "What is written" (docs/DEMANDS.md). `left` is how many
-- levels are left.
use Rattle.std.specs.Prelude.{ℕ, zero, suc, ◌+◌, List, [], ◌∷◌, Bool, true, false, length, leb, eqb, Some, None}
use Rattle.wire.specs.Choice.{pick}
use Rattle.wire.specs.Number.{digits}
use Rattle.wire.specs.Bytes.{decimal}
use Rattle.wire.specs.Field.{u8_at, got}
use Rattle.wire.specs.Limit as limit
use Rattle.image.specs.declared.record.Field.{Field}
use Rattle.image.specs.declared.record.Layout.{Layout}
use Rattle.image.specs.declared.record.Record.{Record}
use Rattle.image.specs.declared.record.Record.TheVariants.{Number, Boolean, Text, Object, Null, Undefined, Reference, EcmaArray, ObjectEnd, StrictArray, Date, Unsupported, Xml, TypedObject, Key, Packet, Header, Message, Lso}
use Rattle.image.specs.declared.writing.Row.{Row}
use Rattle.image.specs.Kind as kind
use Rattle.image.specs.Record.{◌bytes◌, none, bit_of, layout_of}
use Rattle.image.specs.Taking.{Taken, record_at}
use Rattle.image.specs.Out.{Out, end, stop, put, ◌>>=◌, row, Written, unwritten, settled}
use Rattle.amf0.specs.declared.write.Rest.{Rest}
use Rattle.amf0.specs.declared.write.Rest.TheVariants.{Nothing, Pairs, Dense, Values}
use Rattle.amf0.specs.Standard.{short_most}
use Rattle.amf0.specs.Shape.{Shape}
use Rattle.amf0.specs.Shape as S

-- ---- the bytes of a record

-- a marker and two numbers
abbrev pub plain : ℕ → Field → Field → Row
plain m a b = record { mark = 1 bytes m; a = a; b = b; place = 0; length = 0 }

-- a text behind its length in w bytes, and something before it
abbrev pub texted : Field → ℕ → ℕ → ℕ → Row
texted m w p n = record { mark = m; a = w bytes n; b = none; place = p; length = n }

-- What each record is put out as. A string that fits a U16 length is a short one. The end of pairs is an empty key and the end marker.
abbrev pub shape_of : Record → Shape
shape_of (Number n) = S.Value (plain 0x00 (8 bytes n) none) Nothing
shape_of (Boolean b) = S.Value (plain 0x01 (1 bytes (bit_of b)) none) Nothing
shape_of (Text p n) = pick (leb n short_most) (S.Value (texted (1 bytes 0x02) 2 p n) Nothing) (S.Value (texted (1 bytes 0x0C) 4 p n) Nothing)
shape_of Object = S.Value (plain 0x03 none none) Pairs
shape_of Null = S.Value (plain 0x05 none none) Nothing
shape_of Undefined = S.Value (plain 0x06 none none) Nothing
shape_of (Reference n) = S.Value (plain 0x07 (2 bytes n) none) Nothing
shape_of (EcmaArray n) = S.Value (plain 0x08 (4 bytes n) none) Dense
shape_of ObjectEnd = S.End (texted (3 bytes 0x09) 0 0 0)
shape_of (StrictArray n) = S.Value (plain 0x0A (4 bytes n) none) (Values n)
shape_of (Date n present zone) = S.Value (plain 0x0B (8 bytes n) (2 bytes zone)) Nothing
shape_of Unsupported = S.Value (plain 0x0D none none) Nothing
shape_of (Xml p n) = S.Value (texted (1 bytes 0x0F) 4 p n) Nothing
shape_of (TypedObject p n) = S.Value (texted (1 bytes 0x10) 2 p n) Pairs
shape_of (Key p n) = S.Key (texted none 2 p n)
shape_of (Packet h m) = S.Other
shape_of (Header p n f) = S.Other
shape_of (Message p n q m) = S.Other
shape_of (Lso l p n) = S.Other

-- the key of a value without one is its number in decimal, as a short text
abbrev pub indexed : ℕ → Out → Out
indexed k d = put (digits 2 (length (decimal k))) (put (decimal k) d)

-- ---- the records that are allowed at a place

-- the kinds of values
abbrev pub kinds : List ℕ
kinds = kind.number ∷ kind.boolean ∷ kind.text ∷ kind.object ∷ kind.null ∷ kind.undefined ∷ kind.reference ∷ kind.ecma_array ∷ kind.strict_array ∷ kind.date ∷ kind.unsupported ∷ kind.xml ∷ kind.typed_object ∷ []

abbrev pub among : List ℕ → ℕ → Bool
among [] k = false
among (j ∷ js) k = pick (eqb k j) true (among js k)

-- a value's record begins at a place
unfoldable pub value_at : List ℕ → ℕ → Bool
value_at image at = got (λ a p. false) (u8_at image at) λ k p. among kinds k

-- the record at a place, whole and right, or 6
abbrev pub taken : ℕ → Taken → (Record → ℕ → Out) → Out
taken at (Some x) k = k x.0 x.1.at
taken at None k = stop 6 at

-- the record at a place, where it is of the kind that is due there, or 6
abbrev pub asked : List ℕ → (due at : ℕ) → (Layout → ℕ → Out) → Out
asked image due at k = taken at (record_at image at) λ r q. pick (eqb (layout_of r).kind due) (k (layout_of r) q) (stop 6 at)

-- a value's record, or 6
abbrev pub valued : ℕ → Shape → (Row → Rest → Out) → Out
valued at (S.Value w f) k = k w f
valued at (S.Key w) k = stop 6 at
valued at (S.End w) k = stop 6 at
valued at S.Other k = stop 6 at

-- a key's record or the end's, or 6
abbrev pub paired : ℕ → Shape → (Row → Out) → (Row → Out) → Out
paired at (S.Value w f) key last = stop 6 at
paired at (S.Key w) key last = key w
paired at (S.End w) key last = last w
paired at S.Other key last = stop 6 at

-- ---- the writing

module _ (value : ℕ → Out) (image text : List ℕ) where
  -- n values in a row
  unfoldable pub items : ℕ → ℕ → Out
  items zero at = end at
  items (suc n) at = value at >>= items n

  -- pairs up to the end's record; each takes bytes of the image, so the image's length bounds their number
  unfoldable pub pairs : ℕ → ℕ → Out
  pairs zero at = stop 6 at
  pairs (suc fuel) at =
      taken at (record_at image at) λ r q.
      paired at (shape_of r) (λ w. row text w at (value q >>= pairs fuel)) (λ w. row text w at (end q))

  -- values without a key, from number k on, and then pairs
  unfoldable pub dense : ℕ → ℕ → ℕ → Out
  dense zero k at = stop 6 at
  dense (suc fuel) k at =
      pick (value_at image at) (indexed k (value at >>= dense fuel (k + 1))) (pairs (length image) at)

  -- what follows a value's own bytes
  unfoldable pub rest : Rest → ℕ → Out
  rest Nothing at = end at
  rest Pairs at = pairs (length image) at
  rest Dense at = dense (suc (length image)) 0 at
  rest (Values n) at = items n at

-- a value: its record, its own bytes, and what follows them; where no level is left, 5 ranks between the kind and the body
unfoldable pub value : ℕ → List ℕ → List ℕ → ℕ → Out
value zero image text at = stop (pick (value_at image at) 5 6) at
value (suc left) image text at =
    taken at (record_at image at) λ r q.
    valued at (shape_of r) λ w f.
    row text w at (rest (value left image text) image text f q)

-- the value at a place, with every level left
abbrev pub top_value : List ℕ → List ℕ → ℕ → Out
top_value image text at = value limit.levels image text at

-- ---- the calls

-- the most bytes that a layer may have put out before
abbrev pub before : ℕ
before = 0x1000000000000000

-- the value at a place of an image, behind so many bytes; what no layer asks for is refused with 1
unfoldable pub value_in : List ℕ → List ℕ → ℕ → ℕ → Out
value_in image text count at =
    pick (leb (length text) limit.bytes)
    (pick (leb (length image) limit.image)
    (pick (leb at (length image))
    (pick (leb count before) (top_value image text at) (stop 1 0))
    (stop 1 0))
    (stop 1 0))
    (stop 1 0)

-- bytes past the end of the tree are 6
abbrev pub whole : List ℕ → Out → Out
whole image d = d >>= λ n. pick (leb (length image) n) (end n) (stop 6 n)

-- what the public call comes to, in a room
abbrev pub write_of : List ℕ → List ℕ → ℕ → Written
write_of image text room =
    pick (leb (length text) limit.bytes)
    (pick (leb (length image) limit.image) (settled (whole image (top_value image text 0)) room) (unwritten 1))
    (unwritten 1)
