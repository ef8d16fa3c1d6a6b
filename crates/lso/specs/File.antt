-- The file, as the Rust has it: there is no document of it. Which rows of bytes are a file, with its values as AMF 0 has them.
use Rattle.std.specs.Prelude.{ℕ, ◌^◌, ◌<◌, List, [], ◌∷◌, ◌++◌, max}
use Rattle.wire.specs.Number.{digits}
use Rattle.amf0.specs.Standard.{Sort, Tree, UTF-8, Encodes, depth}

-- a file's elements, in order
pub data Body : Type 0 where
  none : Body
  element : (key : List ℕ) → Tree Sort.value → Body → Body

-- a file: the length that it says, which nothing checks, its name, and its elements
pub record Lso : Type 0 where
  pub stored : ℕ
  pub name : List ℕ
  pub body : Body

abbrev pub version : List ℕ
version = 0x00 ∷ 0xBF ∷ []

abbrev pub signature : List ℕ
signature = 0x54 ∷ 0x43 ∷ 0x53 ∷ 0x4F ∷ 0x00 ∷ 0x04 ∷ 0x00 ∷ 0x00 ∷ 0x00 ∷ 0x00 ∷ []

-- three bytes of padding, and the version of AMF
abbrev pub padding : List ℕ
padding = 0x00 ∷ 0x00 ∷ 0x00 ∷ 0x00 ∷ []

-- an element: its key, its value and a byte of padding
pub data Elements : Body → List ℕ → Type 0 where
  none : Elements Body.none []
  element : {k x : List ℕ} {v : Tree Sort.value} {b : Body} {y z : List ℕ} → UTF-8 k x → Encodes Sort.value v y → Elements b z
      → Elements (Body.element k v b) (x ++ (y ++ (0x00 ∷ z)))

pub data File : Lso → List ℕ → Type 0 where
  file : {stored : ℕ} {name x : List ℕ} {b : Body} {z : List ℕ} → stored < 256 ^ 4 → UTF-8 name x → Elements b z
      → File (record { stored = stored; name = name; body = b }) (version ++ (digits 4 stored ++ (signature ++ (x ++ (padding ++ z)))))

-- how deep the values of a file are
abbrev pub deepest : Body → ℕ
deepest none = 0
deepest (element k v b) = max (depth v) (deepest b)
