-- Looking up a key of a container among marks, by halves, and a path of keys. All of it is said of any marks; that it finds the ways of a tree is proved of those
-- that an index holds.
use Rattle.std.specs.Prelude.{ℕ, zero, suc, ◌+◌, ◌-◌, ◌/◌, List, Bool, true, false, ltb, eqb, length, get_or, Option, Some, None}
use Rattle.wire.specs.Choice.{pick}
use Rattle.std.specs.Bool.{then_some}
use Rattle.std.specs.Ordering.{is_lt, is_eq}
use Rattle.wire.specs.Field.{u16_at, got}
use Rattle.wire.specs.Text.{inside_of, part_of}
use Rattle.wire.specs.declared.cursor.Cursor.{Cursor}
use Rattle.image.specs.Taking.{Taken, record_at}
use Rattle.index.specs.declared.mark.Mark.{Mark}
use Rattle.index.specs.declared.walk.Rest.{Rest}
use Rattle.index.specs.declared.walk.Rest.TheVariants.{Nothing, Pairs, Dense, Body, Values}
use Rattle.index.specs.declared.walk.Role.{Role}
use Rattle.index.specs.Mark.{nothing}
use Rattle.index.specs.Keys.{role_of, role_at}
use Rattle.index.specs.Order.{order_of, key_of}

-- ---- what stands at a place

abbrev pub value_by : Role → Bool
value_by (Role.Value p n f) = true
value_by (Role.Key p n) = false
value_by (Role.File p n) = false
value_by Role.End = false
value_by Role.Other = false

-- a whole and right record of a value
unfoldable pub is_value : List ℕ → ℕ → Bool
is_value image at = value_by (role_at image at)

abbrev pub has_pairs : Rest → Bool
has_pairs Pairs = true
has_pairs Dense = true
has_pairs Nothing = false
has_pairs Body = false
has_pairs (Values n) = false

abbrev pub opens_by : ℕ → Role → Bool
opens_by at (Role.Value p n f) = has_pairs f
opens_by at (Role.File p n) = eqb at 0
opens_by at (Role.Key p n) = false
opens_by at Role.End = false
opens_by at Role.Other = false

-- a record that a path steps into: of kind 03, 08 or 10, or a file's, where it is the first
unfoldable pub opens_at : List ℕ → ℕ → Bool
opens_at image at = opens_by at (role_at image at)

abbrev pub starts_by : Role → Bool
starts_by (Role.Value p n f) = true
starts_by (Role.File p n) = true
starts_by (Role.Key p n) = false
starts_by Role.End = false
starts_by Role.Other = false

-- a record that a path can start at
unfoldable pub starts_at : List ℕ → Bool
starts_at image = starts_by (role_at image 0)

-- ---- a mark against a container and a key

module _ (image text : List ℕ) (container : ℕ) (key : List ℕ) where
  -- a mark of a later container, or of this one and a later key. Depth 0 is no value's: the zeros behind an index are past everything.
  unfoldable pub past_of : Mark → Bool
  past_of m =
      pick (eqb m.depth 0) true
      (pick (eqb container m.container) (is_lt (order_of key (key_of image text m.key))) (ltb container m.container))

  abbrev pub behind_by : ℕ → Role → Cursor → Bool
  behind_by value (Role.Key p n) c =
      pick (eqb c.at value)
      (pick (inside_of text p n) (pick (is_eq (order_of key (part_of text p n))) (is_value image c.at) false) false)
      false
  behind_by value (Role.Value p n f) c = false
  behind_by value (Role.File p n) c = false
  behind_by value Role.End c = false
  behind_by value Role.Other c = false

  abbrev pub behind_in : ℕ → Taken → Bool
  behind_in value (Some x) = behind_by value (role_of x.0) x.1
  behind_in value None = false

  -- a mark of this container, at whose key place this key's record stands, and right behind it, at the mark's value place, a value's
  unfoldable pub leads_of : Mark → Bool
  leads_of m = pick (eqb container m.container) (behind_in m.value (record_at image m.key)) false

-- ---- by halves

module _ (past : Mark → Bool) (marks : List Mark) where
  -- from low on and before high: the number of the first mark that is past, or high, where all behind one that is past are past too
  unfoldable pub upper_of : ℕ → ℕ → ℕ → ℕ
  upper_of zero low high = low
  upper_of (suc fuel) low high =
      pick (ltb low high)
      (pick (past (get_or marks ((low + high) / 2) nothing)) (upper_of fuel low ((low + high) / 2)) (upper_of fuel ((low + high) / 2 + 1) high))
      low

module _ (image text : List ℕ) (marks : List Mark) where
  -- the mark before the first that is past, where it leads on
  unfoldable pub last_of : ℕ → List ℕ → Option ℕ
  last_of container key =
      let n = upper_of (past_of image text container key) marks (length marks) 0 (length marks) in
      pick (eqb n 0) None (then_some (leads_of image text container key (get_or marks (n - 1) nothing)) (get_or marks (n - 1) nothing).value)

  -- one step down
  unfoldable pub step_of : ℕ → List ℕ → Option ℕ
  step_of container key = pick (opens_at image container) (last_of container key) None

  abbrev pub thence : Option ℕ → (ℕ → Option ℕ) → Option ℕ
  thence (Some place) k = k place
  thence None k = None

  -- the keys from place i of a path on, each as a short text, from a record of the image on
  unfoldable pub down_of : List ℕ → ℕ → ℕ → ℕ → Option ℕ
  down_of path zero i place = Some place
  down_of path (suc fuel) i place =
      pick (ltb i (length path))
      (got (λ a p. None) (u16_at path i) λ n q.
      pick (inside_of path q n) (thence (step_of place (part_of path q n)) (down_of path fuel (q + n))) None)
      (Some place)

  -- a path from the first record on
  unfoldable pub find_of : List ℕ → Option ℕ
  find_of path = pick (starts_at image) (down_of path (length path) 0 0) None
