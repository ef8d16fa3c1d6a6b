-- A record by its kind: those of the layers above values.
use Rattle.std.specs.Prelude.{◌≡◌}
use Rattle.wire.proofs.Kit.{ℕ, refl, Bool, eqb}
use Rattle.wire.specs.Choice.{pick}
use Rattle.image.specs.declared.record.Record.{Record}
use Rattle.image.specs.declared.record.Record.TheVariants.{Number, Boolean, Text, Object, Null, Undefined, Reference, EcmaArray, ObjectEnd, StrictArray, Date, Unsupported, Xml, TypedObject, Key, Packet, Header, Message, Lso}
use Rattle.image.specs.Kind as kind
use Rattle.image.specs.Record.{layout_of}

-- what a kind says of its record
abbrev pub Is : ℕ → Record → Type 0
Is k r =
    pick (eqb k kind.key) ((p : ℕ) × (n : ℕ) × (r ≡ Key p n))
    (pick (eqb k kind.packet) ((h : ℕ) × (m : ℕ) × (r ≡ Packet h m))
    (pick (eqb k kind.header) ((p : ℕ) × (n : ℕ) × (f : Bool) × (r ≡ Header p n f))
    (pick (eqb k kind.message) ((p : ℕ) × (n : ℕ) × (q : ℕ) × (m : ℕ) × (r ≡ Message p n q m))
    (pick (eqb k kind.lso) ((l : ℕ) × (p : ℕ) × (n : ℕ) × (r ≡ Lso l p n)) (Unit {0})))))

own : (r : Record) → Is (layout_of r).kind r
own (Number n) = tt
own (Boolean b) = tt
own (Text p n) = tt
own Object = tt
own Null = tt
own Undefined = tt
own (Reference n) = tt
own (EcmaArray n) = tt
own ObjectEnd = tt
own (StrictArray n) = tt
own (Date n z t) = tt
own Unsupported = tt
own (Xml p n) = tt
own (TypedObject p n) = tt
own (Key p n) = (p, n, refl)
own (Packet h m) = (h, m, refl)
own (Header p n f) = (p, n, f, refl)
own (Message p n q m) = (p, n, q, m, refl)
own (Lso l p n) = (l, p, n, refl)

pub is : (r : Record) (k : ℕ) → (layout_of r).kind ≡ k → Is k r
is r k e = rw e at (own r)
