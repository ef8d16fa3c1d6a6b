-- The words of the theorems of the index: the keys of a tree, and the way down a tree that a path of keys tells. Trees and files are told by the records of their
-- images, as the writers have it (`Spells`); a place is one of the image.
use Rattle.std.specs.Prelude.{ℕ, ◌+◌, ◌^◌, ◌<◌, ◌≡◌, List, [], ◌∷◌, ◌++◌, map, Bool, true, false, length, Some, None, Option}
use Rattle.wire.specs.Choice.{pick}
use Rattle.wire.specs.Number.{digits}
use Rattle.wire.specs.Field.{equal}
use Rattle.image.specs.declared.record.Record.{Record}
use Rattle.image.specs.declared.record.Record.TheVariants as R
use Rattle.image.specs.Record.{size}
use Rattle.amf0.specs.Standard.{Sort, Tree}
use Rattle.amf0.specs.Shown.{laid}
use Rattle.amf0.specs.Written.{Lead, Spells}
use Rattle.amf0.specs.Written.Lead.{keyed}
use Rattle.lso.specs.File.{Body}
use Rattle.lso.specs.Written as file
use Rattle.index.specs.declared.mark.Mark.{Mark}
use Rattle.index.specs.declared.walk.Role.{Role}
use Rattle.index.specs.Mark.{mark}
use Rattle.index.specs.Keys.{role_of}

-- ---- the keys of a tree

-- Their marks, in the order of reading. `at` is where the records begin; `place` is that of the container that they stand in, and `d` the depth of its values.
unfoldable pub marks : {s : List ℕ} {l : Lead} {k : Sort} {t : Tree k} {rs : List Record} → Spells s l k t rs → (place d at : ℕ) → List Mark
marks (Spells.node {r} e c) place d at = marks c at (d + 1) (at + size r)
marks (Spells.none e) place d at = []
marks (Spells.property {r} {rs} e v ps) place d at =
    mark d place at (at + size r) ∷ (marks v place d (at + size r) ++ marks ps place d (at + size r + length (laid rs)))
marks Spells.nil place d at = []
marks (Spells.cons {rs} v vs) place d at = marks v place d at ++ marks vs place d (at + length (laid rs))
marks (Spells.dense {rs} v ps) place d at = marks v place d at ++ marks ps place d (at + length (laid rs))
marks (Spells.pairs ps) place d at = marks ps place d at

-- a file's elements are pairs of its record, which stands at 0
unfoldable pub marks_of : {s : List ℕ} {b : Body} {rs : List Record} → file.Spells s b rs → (at : ℕ) → List Mark
marks_of file.Spells.none at = []
marks_of (file.Spells.element {p} {n} {rs = rs} e v b) at =
    mark 1 0 at (at + size (R.Key p n)) ∷ (marks v 0 1 (at + size (R.Key p n)) ++ marks_of b (at + size (R.Key p n) + length (laid rs)))

-- the places of their key records
abbrev pub places_of : List Mark → List ℕ
places_of l = map (λ (m : Mark). m.key) l

abbrev pub is_key : Role → Bool
is_key (Role.Key p n) = true
is_key (Role.Value p n f) = false
is_key (Role.File p n) = false
is_key Role.End = false
is_key Role.Other = false

-- the places of the key records among records that begin at a place
unfoldable pub key_places : ℕ → List Record → List ℕ
key_places at [] = []
key_places at (r ∷ rs) = pick (is_key (role_of r)) (at ∷ key_places (at + size r) rs) (key_places (at + size r) rs)

-- ---- a path

-- a path's bytes: each key behind its length of two bytes
abbrev pub shorts : List (List ℕ) → List ℕ
shorts [] = []
shorts (k ∷ ks) = digits 2 (length k) ++ (k ++ shorts ks)

-- the lengths have room there
abbrev pub Short : List (List ℕ) → Type 0
Short [] = Unit {0}
Short (k ∷ ks) = (length k < 256 ^ 2) × Short ks

-- bytes that are such a path
pub record Keys (path : List ℕ) : Type 0 where
  pub keys : List (List ℕ)
  pub short : Short keys
  pub same : path ≡ shorts keys

-- ---- the way down

module _ (s : List ℕ) where
  -- a value, and where its records begin
  pub record Sub : Type 0 where
    pub tree : Tree Sort.value
    pub records : List Record
    pub spells : Spells s keyed Sort.value tree records
    pub at : ℕ

  pub data Perhaps : Type 0 where
    nowhere : Perhaps
    found : Sub → Perhaps

  abbrev pub or_else : Perhaps → Perhaps → Perhaps
  or_else nowhere y = y
  or_else (found x) y = found x

  -- the value of the last property of a key. Values without a key have none: no path leads to them.
  unfoldable pub last_in : {l : Lead} {k : Sort} {t : Tree k} {rs : List Record} → Spells s l k t rs → List ℕ → ℕ → Perhaps
  last_in (Spells.node e c) key at = nowhere
  last_in (Spells.none e) key at = nowhere
  last_in (Spells.property {r} {k} {v} {rs} e c ps) key at =
      or_else (last_in ps key (at + size r + length (laid rs)))
      (pick (equal k key) (found (record { tree = v; records = rs; spells = c; at = at + size r })) nowhere)
  last_in Spells.nil key at = nowhere
  last_in (Spells.cons v vs) key at = nowhere
  last_in (Spells.dense {rs} v ps) key at = last_in ps key (at + length (laid rs))
  last_in (Spells.pairs ps) key at = last_in ps key at

  -- one step down from a value: to the last of its properties of that key
  unfoldable pub below : {t : Tree Sort.value} {rs : List Record} → Spells s keyed Sort.value t rs → List ℕ → ℕ → Perhaps
  below (Spells.node {r} e c) key at = last_in c key (at + size r)

  -- one step down from a file: to the last of its elements of that key
  unfoldable pub last_element : {b : Body} {rs : List Record} → file.Spells s b rs → List ℕ → ℕ → Perhaps
  last_element file.Spells.none key at = nowhere
  last_element (file.Spells.element {p} {n} {k} {v} {rs = rs} e c b) key at =
      or_else (last_element b key (at + size (R.Key p n) + length (laid rs)))
      (pick (equal k key) (found (record { tree = v; records = rs; spells = c; at = at + size (R.Key p n) })) nowhere)

  abbrev pub onward : Perhaps → (Sub → Perhaps) → Perhaps
  onward nowhere k = nowhere
  onward (found x) k = k x

  -- the keys of a path, one step each
  unfoldable pub way : Sub → List (List ℕ) → Perhaps
  way x [] = found x
  way x (key ∷ path) = onward (below x.spells key x.at) λ y. way y path

  -- the place of what a way leads to
  abbrev pub place_of : Perhaps → (Option ℕ)
  place_of nowhere = None
  place_of (found x) = Some x.at

  -- the way down from a file whose elements begin at a place: no keys are its own record
  unfoldable pub way_of : {b : Body} {rs : List Record} → file.Spells s b rs → ℕ → List (List ℕ) → (Option ℕ)
  way_of c at [] = Some 0
  way_of c at (key ∷ path) = place_of (onward (last_element c key at) λ y. way y path)
