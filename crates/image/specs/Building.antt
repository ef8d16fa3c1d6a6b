-- A record told by five numbers: its kind and its fields, in the order in which they lie; a field that it has not is 0.
use Rattle.std.specs.Prelude.{ℕ, ◌+◌, ◌%◌, ◌^◌, ◌≡◌, List, [], ◌∷◌, length, get_or, leb, eqb, Option, Some, None}
use Rattle.std.proofs.lemmas.List.Edits.{sets}
use Rattle.wire.specs.Choice.{pick}
use Rattle.wire.specs.Field.{equal}
use Rattle.image.specs.declared.building.Laying.{Laying}
use Rattle.image.specs.declared.record.Layout.{Layout}
use Rattle.image.specs.declared.record.Record.{Record}
use Rattle.image.specs.declared.record.Record.TheVariants.{Number, Boolean, Text, Object, Null, Undefined, Reference, EcmaArray, ObjectEnd, StrictArray, Date, Unsupported, Xml, TypedObject, Key, Packet, Header, Message, Lso}
use Rattle.image.specs.Record.{layout_of, bytes_of, size}
use Rattle.image.specs.Taking.{Fits}

-- the numbers of what lies so
abbrev pub numbers_in : Layout → List ℕ
numbers_in l = l.kind ∷ l.a.number ∷ l.b.number ∷ l.c.number ∷ l.d.number ∷ []

-- Numbers tell a record: they are its own, and it can stand in an image.
pub record Tells (fs : List ℕ) (r : Record) : Type 0 where
  pub numbers : fs ≡ numbers_in (layout_of r)
  pub fits : Fits r

-- ---- which record they tell, if any (`told_exactly` in proofs/Told.antt: just the one that `Tells` has)

-- what of a number a field of w bytes holds
abbrev pub low : ℕ → ℕ → ℕ
low w n = n % 256 ^ w

-- a record of each kind, with what its fields hold of these numbers
abbrev pub holders : (a b c d : ℕ) → List Record
holders a b c d =
    Number (low 8 a)
    ∷ Boolean (eqb a 1)
    ∷ Text (low 3 a) (low 3 b)
    ∷ Xml (low 3 a) (low 3 b)
    ∷ Object
    ∷ Null
    ∷ Undefined
    ∷ ObjectEnd
    ∷ Unsupported
    ∷ Reference (low 2 a)
    ∷ EcmaArray (low 4 a)
    ∷ StrictArray (low 4 a)
    ∷ Date (low 8 a) (eqb b 1) (pick (eqb b 1) (low 2 c) 0)
    ∷ TypedObject (low 3 a) (low 2 b)
    ∷ Key (low 3 a) (low 2 b)
    ∷ Packet (low 2 a) (low 2 b)
    ∷ Header (low 3 a) (low 2 b) (eqb c 1)
    ∷ Message (low 3 a) (low 2 b) (low 3 c) (low 2 d)
    ∷ Lso (low 4 a) (low 3 b) (low 2 c)
    ∷ []

abbrev pub of_kind : List Record → ℕ → Option Record
of_kind [] k = None
of_kind (r ∷ rs) k = pick (eqb k (layout_of r).kind) (Some r) (of_kind rs k)

-- the record of a kind, with what its fields hold of these numbers
unfoldable pub holder_of : (k a b c d : ℕ) → Option Record
holder_of k a b c d = of_kind (holders a b c d) k

-- it is told where the numbers are its own, so that its fields hold them whole
abbrev pub sure : List ℕ → Option Record → Option Record
sure fs (Some r) = pick (equal (numbers_in (layout_of r)) fs) (Some r) None
sure fs None = None

unfoldable pub record_of : List ℕ → Option Record
record_of fs = sure fs (holder_of (get_or fs 0 0) (get_or fs 1 0) (get_or fs 2 0) (get_or fs 3 0) (get_or fs 4 0))

-- ---- the record laid

-- what laying it comes to, and the image then
pub record Put : Type 0 where
  pub laying : Laying
  pub image : List ℕ

abbrev pub putting : (answer made : ℕ) → List ℕ → Put
putting a m i = record { laying = record { answer = a; made = m }; image = i }

-- behind what is made: no record is 6, no room is 4, and neither changes anything
abbrev pub laid_of : Option Record → ℕ → List ℕ → Put
laid_of (Some r) made image = pick (leb (made + size r) (length image)) (putting 0 (made + size r) (sets image made (bytes_of r))) (putting 4 made image)
laid_of None made image = putting 6 made image

unfoldable pub put_of : List ℕ → ℕ → List ℕ → Put
put_of fs made image = laid_of (record_of fs) made image
