-- What an input is, by the grammars, and what an image holds.
use Rattle.std.specs.Prelude.{ℕ, ◌≤◌, ◌<◌, ◌⊎◌, List, ◌++◌, Bool, length, take}
use Rattle.wire.specs.Number.{Bytes}
use Rattle.wire.specs.Limit as limit
use Rattle.image.specs.Due.{Lacks}
use Rattle.image.specs.Whole.{bytes}
use Rattle.amf0.specs.Standard.{Sort, Tree, depth, Encodes}
use Rattle.amf0.specs.Written as value
use Rattle.lso.specs.File.{Lso, File, deepest}
use Rattle.lso.specs.Reading.{ever_due}
use Rattle.lso.specs.Written as file
use Rattle.lso_theorems.specs.Refusal.{RefusedHeader, Heads, Reaches}
use Rattle.packet.specs.Packet.{Packet, Encoded}
use Rattle.packet.specs.Shown.{Within}
use Rattle.packet.specs.Written as packet
use Rattle.packet_theorems.specs.Cuts.{Slice, Cuts}

-- ---- inputs

-- a value of the standard's, at most as deep as the limit
abbrev pub IsValue : List ℕ → Type 0
IsValue s = (t : Tree Sort.value) × Encodes Sort.value t s × (depth t ≤ limit.levels)

-- an input that begins with one
abbrev pub HasValue : List ℕ → Type 0
HasValue s = (t : Tree Sort.value) × (n : ℕ) × Encodes Sort.value t (take n s) × (depth t ≤ limit.levels)

-- a file
abbrev pub IsFile : List ℕ → Type 0
IsFile s = (f : Lso) × File f s × (deepest f.body ≤ limit.levels)

-- the header of a file, and nothing behind it
abbrev pub IsHeader : List ℕ → Type 0
IsHeader s = Bytes s × Heads s (length s)

-- a packet
abbrev pub IsPacket : List ℕ → Type 0
IsPacket s = (p : Packet) × Encoded p s × Within limit.levels p

-- a packet that its lengths cut exactly, whatever stands in its values of a known length, and that is not over the limit
abbrev pub IsCut : List ℕ → Type 0
IsCut s = (hs : List Slice) × (ms : List Slice) × Cuts hs ms s × (length s ≤ limit.bytes)

-- a row of bytes that is one, of any size
abbrev pub Cuttable : List ℕ → Type 0
Cuttable s = Bytes s × (hs : List Slice) × (ms : List Slice) × Cuts hs ms s

-- a file whose header is refused with 3 at a place, or which, given room, can be read up to a place, and no further, before its end
abbrev pub WrongFile : List ℕ → (room place : ℕ) → Type 0
WrongFile s room p = RefusedHeader s 3 p ⊎ ((f : Lso) × Reaches s room f p × (p < length s))

-- ---- rooms that are too small

-- for all records that ever fall due behind a file's header
abbrev pub TightFile : List ℕ → ℕ → Type 0
TightFile s room = (p : ℕ) × Heads s p × (room < length (bytes (ever_due s p)))

-- the first of them that has no room is due at a place
abbrev pub FullFile : List ℕ → (room place : ℕ) → Type 0
FullFile s room q = (p : ℕ) × Heads s p × Lacks (ever_due s p) 0 room q

-- for the entries of a packet that its lengths cut exactly
abbrev pub TightCut : List ℕ → ℕ → Type 0
TightCut s room = (hs : List Slice) × (ms : List Slice) × Cuts hs ms s × (length s ≤ limit.bytes) × (room < length (hs ++ ms))

-- ---- images

-- the image is that of a tree whose bytes are within the limit and the room,
abbrev pub HoldsValue : List ℕ → List ℕ → ℕ → Type 0
HoldsValue i text room = (t : Tree Sort.value) × value.Writable i text t × (length (value.write t) ≤ limit.bytes) × (length (value.write t) ≤ room)

-- of a file,
abbrev pub HoldsFile : List ℕ → List ℕ → ℕ → Type 0
HoldsFile i text room = (f : Lso) × file.Writable i text f × (length (file.write f) ≤ limit.bytes) × (length (file.write f) ≤ room)

-- and of a packet
abbrev pub HoldsPacket : Bool → List ℕ → List ℕ → ℕ → Type 0
HoldsPacket exact i text room =
    (p : Packet) × packet.Writable i text p × (length (packet.write exact p) ≤ limit.bytes) × (length (packet.write exact p) ≤ room)
