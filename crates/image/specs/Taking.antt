-- The record at a place of an image: its kind is one of the rule "Tree image" (docs/DEMANDS.md), and its body is whole and right.
use Rattle.std.specs.Prelude.{ℕ, ◌^◌, ◌<◌, ◌≡◌, List, [], ◌∷◌, Bool, true, false, eqb, Option, Some, None}
use Rattle.wire.specs.Choice.{pick}
use Rattle.wire.specs.Field.{to, Parsed, text_to, u8_at, u16_at, u24_at, u32_at, u64_at, got, got_text}
use Rattle.wire.specs.declared.cursor.Cursor.{Cursor}
use Rattle.wire.specs.declared.cursor.Span.{Span}
use Rattle.wire.specs.Answer.{denied}
use Rattle.image.specs.declared.record.Field.{Field}
use Rattle.image.specs.declared.record.Record.{Record}
use Rattle.image.specs.declared.record.Record.TheVariants.{Number, Boolean, Text, Object, Null, Undefined, Reference, EcmaArray, ObjectEnd, StrictArray, Date, Unsupported, Xml, TypedObject, Key, Packet, Header, Message, Lso}
use Rattle.image.specs.Kind as kind
use Rattle.image.specs.Record.{layout_of}

-- ---- fields

-- a byte that is 00 or 01
abbrev pub flag_to : Bool → Cursor → Option (Bool × Cursor)
flag_to b c = Some (b, c)

unfoldable pub flag_at : List ℕ → ℕ → Option (Bool × Cursor)
flag_at s at = got (λ a p. None) (u8_at s at) λ n p. pick (eqb n 0) (flag_to false (to p)) (pick (eqb n 1) (flag_to true (to p)) None)

-- a record and the cursor behind it, if a whole and right one stands there
abbrev pub Taken : Type 0
Taken = Option (Record × Cursor)

abbrev pub taken_to : Record → Cursor → Taken
taken_to r c = Some (r, c)

abbrev pub got_flag : Option (Bool × Cursor) → (Bool → ℕ → Taken) → Taken
got_flag (Some x) k = k x.0 x.1.at
got_flag None k = None

-- a place and a length of two bytes
unfoldable pub short_at : List ℕ → ℕ → Parsed Span
short_at s at = got denied (u24_at s at) λ p q. got denied (u16_at s q) λ n e. text_to p n (to e)

-- a place and a length of three bytes
unfoldable pub long_at : List ℕ → ℕ → Parsed Span
long_at s at = got denied (u24_at s at) λ p q. got denied (u24_at s q) λ n e. text_to p n (to e)

-- ---- bodies

-- what stands from a place on
abbrev pub Body : Type 0
Body = List ℕ → ℕ → Taken

abbrev pub bad : ℕ → ℕ → Taken
bad a p = None

abbrev pub found : Record → Body
found r s at = taken_to r (to at)

-- a field, and then the rest of the body
unfoldable pub u16 : (ℕ → Body) → Body
u16 k s at = got bad (u16_at s at) λ n p. k n s p

unfoldable pub u32 : (ℕ → Body) → Body
u32 k s at = got bad (u32_at s at) λ n p. k n s p

unfoldable pub u64 : (ℕ → Body) → Body
u64 k s at = got bad (u64_at s at) λ n p. k n s p

unfoldable pub flag : (Bool → Body) → Body
flag k s at = got_flag (flag_at s at) λ b p. k b s p

unfoldable pub short : (ℕ → ℕ → Body) → Body
short k s at = got_text bad (short_at s at) λ p n e. k p n s e

unfoldable pub long : (ℕ → ℕ → Body) → Body
long k s at = got_text bad (long_at s at) λ p n e. k p n s e

-- a zone that is absent is 0
abbrev pub zone_fits : Bool → ℕ → Bool
zone_fits true z = true
zone_fits false z = eqb z 0

unfoldable pub zoned : Bool → ℕ → Body → Body
zoned b z k s at = pick (zone_fits b z) (k s at) None

-- ---- the table

pub record Line : Type 0 where
  pub kind : ℕ
  pub body : Body

infix 5 ◌has◌
abbrev pub ◌has◌ : ℕ → Body → Line
k has b = record { kind = k; body = b }

abbrev pub lines : List Line
lines =
    (kind.number has u64 λ n. found (Number n))
    ∷ (kind.boolean has flag λ b. found (Boolean b))
    ∷ (kind.text has long λ p n. found (Text p n))
    ∷ (kind.xml has long λ p n. found (Xml p n))
    ∷ (kind.object has found Object)
    ∷ (kind.null has found Null)
    ∷ (kind.undefined has found Undefined)
    ∷ (kind.object_end has found ObjectEnd)
    ∷ (kind.unsupported has found Unsupported)
    ∷ (kind.reference has u16 λ n. found (Reference n))
    ∷ (kind.ecma_array has u32 λ n. found (EcmaArray n))
    ∷ (kind.strict_array has u32 λ n. found (StrictArray n))
    ∷ (kind.date has u64 λ n. flag λ present. u16 λ zone. zoned present zone (found (Date n present zone)))
    ∷ (kind.typed_object has short λ p n. found (TypedObject p n))
    ∷ (kind.key has short λ p n. found (Key p n))
    ∷ (kind.packet has u16 λ headers. u16 λ messages. found (Packet headers messages))
    ∷ (kind.header has short λ p n. flag λ f. found (Header p n f))
    ∷ (kind.message has short λ p n. short λ q m. found (Message p n q m))
    ∷ (kind.lso has u32 λ stored. short λ p n. found (Lso stored p n))
    ∷ []

abbrev pub body_in : List Line → ℕ → Body
body_in [] k s at = None
body_in (l ∷ ls) k s at = pick (eqb k l.kind) (l.body s at) (body_in ls k s at)

-- the body of a kind
unfoldable pub body_at : ℕ → Body
body_at k s at = body_in lines k s at

unfoldable pub record_at : List ℕ → ℕ → Taken
record_at s at = got bad (u8_at s at) λ k p. body_at k s p

-- ---- the records that can stand in an image

abbrev pub Small : Field → Type 0
Small f = f.number < 256 ^ f.width

-- the fields' numbers have room in their bytes, and a zone that is absent is 0
pub record Fits (r : Record) : Type 0 where
  pub a : Small (layout_of r).a
  pub b : Small (layout_of r).b
  pub c : Small (layout_of r).c
  pub d : Small (layout_of r).d
  pub zone : (n z : ℕ) → r ≡ Date n false z → z ≡ 0
