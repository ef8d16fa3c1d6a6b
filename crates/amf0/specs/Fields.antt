-- What stands behind each marker: a value's own fields, the record that they make, and what follows them.
use Rattle.std.specs.Prelude.{ℕ, ◌+◌, List, true, length, leb, ltb, Option, Some, None, Result, Ok, Err}
use Rattle.wire.specs.Answer.{Verdict, denied}
use Rattle.wire.specs.Choice.{pick}
use Rattle.wire.specs.declared.cursor.Cursor.{Cursor}
use Rattle.wire.specs.Field.{to, u8_at, u16_at, u32_at, u64_at, text_at, got, got_text}
use Rattle.image.specs.declared.record.Record.{Record}
use Rattle.image.specs.declared.record.Record.TheVariants as R
use Rattle.image.specs.Record.{moved}
use Rattle.amf0.specs.declared.type_marker.TypeMarker.{TypeMarker}
use Rattle.amf0.specs.declared.type_marker.TypeMarker.TheVariants.{Number, Boolean, String, Object, Null, Undefined, Reference, EcmaArray, StrictArray, Date, LongString, Unsupported, Xml, TypedObject, Amf3}
use Rattle.amf0.specs.declared.read.Follow.{Follow}
use Rattle.amf0.specs.declared.read.Follow.TheVariants.{Nothing, Pairs, Values}

-- a record, what follows it, and where; or a refusal
abbrev pub Fields : Type 0
Fields = Result (Record × Follow × Cursor) Verdict

abbrev pub fields_to : Record → Follow → Cursor → Fields
fields_to r f c = Ok (r, f, c)

abbrev pub gives : Record → Follow → ℕ → Fields
gives r f q = fields_to r f (to q)

-- The fields from p on, behind the marker of a value.
unfoldable pub fields_at : List ℕ → ℕ → TypeMarker → Fields
fields_at s p Number = got denied (u64_at s p) λ n q. gives (R.Number n) Nothing q
fields_at s p Boolean = got denied (u8_at s p) λ b q. gives (R.Boolean (ltb 0 b)) Nothing q
fields_at s p String = got_text denied (text_at 2 s p) λ t n q. gives (R.Text t n) Nothing q
fields_at s p Object = gives R.Object Pairs p
fields_at s p Null = gives R.Null Nothing p
fields_at s p Undefined = gives R.Undefined Nothing p
fields_at s p Reference = got denied (u16_at s p) λ n q. gives (R.Reference n) Nothing q
fields_at s p EcmaArray = got denied (u32_at s p) λ n q. gives (R.EcmaArray n) Pairs q
-- a count that exceeds the bytes left after it is refused at the count
fields_at s p StrictArray =
    got denied (u32_at s p) λ n q. pick (leb (q + n) (length s)) (gives (R.StrictArray n) (Values n) q) (denied 2 p)
fields_at s p Date = got denied (u64_at s p) λ n q. got denied (u16_at s q) λ z e. gives (R.Date n true z) Nothing e
-- the same kind of value as a string
fields_at s p LongString = got_text denied (text_at 4 s p) λ t n q. gives (R.Text t n) Nothing q
fields_at s p Unsupported = gives R.Unsupported Nothing p
fields_at s p Xml = got_text denied (text_at 4 s p) λ t n q. gives (R.Xml t n) Nothing q
fields_at s p TypedObject = got_text denied (text_at 2 s p) λ t n q. gives (R.TypedObject t n) Pairs q
fields_at s p Amf3 = gives R.Unsupported Nothing p

-- the same behind any marker at `at`: one that marks no value is refused where it stands
abbrev pub behind : List ℕ → ℕ → ℕ → Option TypeMarker → Fields
behind s at p (Some k) = fields_at s p k
behind s at p None = denied 3 at

-- the answer to a marker where no level is left: a value would stand too deep
abbrev pub shut : Option TypeMarker → ℕ
shut (Some k) = 5
shut None = 3

-- fields in a part that begins at the place a of a whole
abbrev pub based_fields : ℕ → Fields → Fields
based_fields a (Ok x) = fields_to (moved a x.0) x.1 x.2
based_fields a (Err r) = denied r.answer (a + r.place)

-- what comes of the fields, or of their refusal
abbrev pub got_fields {ℓ} : {A : Type ℓ} → (ℕ → ℕ → A) → Fields → (Record → Follow → ℕ → A) → A
got_fields stop (Ok x) k = k x.0 x.1 x.2.at
got_fields stop (Err r) k = stop r.answer r.place
