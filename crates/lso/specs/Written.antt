-- What the records of a file's image mean, and the bytes that a file is written as.
use Rattle.std.specs.Prelude.{ℕ, ◌-◌, ◌^◌, ◌≤◌, ◌<◌, ◌≡◌, List, [], ◌∷◌, ◌++◌, length, take, drop}
use Rattle.wire.specs.Number.{digits}
use Rattle.wire.specs.Field.{bytes_at}
use Rattle.wire.specs.Limit as limit
use Rattle.image.specs.declared.record.Record.{Record}
use Rattle.image.specs.declared.record.Record.TheVariants as R
use Rattle.image.specs.Taking.{Fits}
use Rattle.image.specs.Whole.{Whole}
use Rattle.image.specs.Out.{Written}
use Rattle.amf0.specs.Standard.{Sort, Tree}
use Rattle.amf0.specs.Shown.{laid, Stands, Right}
use Rattle.amf0.specs.Written as amf0
use Rattle.amf0.specs.Written.Lead.{keyed}
use Rattle.lso.specs.File.{Body, Lso, version, signature, padding, deepest}
use Rattle.lso.specs.Writing.{length_of, write_of}

-- ---- the bytes of a file

abbrev pub short : List ℕ → List ℕ
short t = digits 2 (length t) ++ t

-- what a file's elements are written as
abbrev pub write_body : Body → List ℕ
write_body Body.none = []
write_body (Body.element k v b) = short k ++ (amf0.write v ++ (0x00 ∷ write_body b))

-- a name and a body behind a header that says their length
abbrev pub file_bytes : (name body : List ℕ) → List ℕ
file_bytes name body = version ++ (digits 4 (length_of (length name) (length body)) ++ (signature ++ (short name ++ (padding ++ body))))

-- what a file is written as
abbrev pub write : Lso → List ℕ
write f = file_bytes f.name (write_body f.body)

-- the same file, but for the length that it says
abbrev pub saying : ℕ → Lso → Lso
saying n f = record { stored = n; name = f.name; body = f.body }

-- bytes that say, behind the first two, how many more there are: 16 and the name's and the body's
pub record SaysLength (b : List ℕ) : Type 0 where
  pub name : List ℕ
  pub body : List ℕ
  pub same : b ≡ file_bytes name body
  pub says : take 4 (drop 2 b) ≡ digits 4 (length_of (length name) (length body))
  pub behind : length_of (length name) (length body) ≡ length b - 6
  pub small : length_of (length name) (length body) < 256 ^ 4

-- ---- the file of an image

-- records that spell a file's elements over a text, left to right
pub data Spells (s : List ℕ) : Body → List Record → Type 0 where
  none : Spells s Body.none []
  element : {p n : ℕ} {k : List ℕ} {v : Tree Sort.value} {b : Body} {rs qs : List Record} → bytes_at n s p ≡ k → amf0.Spells s keyed Sort.value v rs
      → Spells s b qs → Spells s (Body.element k v b) (R.Key p n ∷ (rs ++ qs))

-- image bytes that are the record of a file's length and name, and then records which, over the text s, spell its elements
pub record Images (s : List ℕ) (file : Lso) (image : List ℕ) : Type 0 where
  pub place : ℕ
  pub records : List Record
  pub fits : Fits (R.Lso file.stored place (length file.name))
  pub stands : Stands s place (length file.name)
  pub names : bytes_at (length file.name) s place ≡ file.name
  pub right : Right s records
  pub spells : Spells s file.body records
  pub lies : image ≡ laid (R.Lso file.stored place (length file.name) ∷ records)

-- an image that can be written, but for the bytes that this takes: its size and that of the text are within the limits, and it is that of a file whose
-- values are at most as deep as the limit
pub record Writable (image text : List ℕ) (file : Lso) : Type 0 where
  pub text_size : length text ≤ limit.bytes
  pub image_size : length image ≤ limit.image
  pub images : Images text file image
  pub deep : deepest file.body ≤ limit.levels

-- an input is read in one room, and what was read is written in another
abbrev pub rewrite_of : (List ℕ → ℕ → Whole) → List ℕ → ℕ → ℕ → Written
rewrite_of of s room out = write_of (of s room).bytes s out
