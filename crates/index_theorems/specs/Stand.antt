-- What stands at the places that a mark names.
use Rattle.std.specs.Prelude.{ℕ, ◌≡◌, List, [], ◌∷◌, ◌⊎◌, true}
use Rattle.wire.specs.Field.{to}
use Rattle.image.specs.declared.record.Record.TheVariants as R
use Rattle.image.specs.Taking.{record_at, taken_to}
use Rattle.amf0.specs.Shown.{Stands}
use Rattle.index.specs.declared.mark.Mark.{Mark}
use Rattle.index.specs.Find.{is_value}

-- a mark of a list
abbrev pub In : Mark → List Mark → Type 0
In e [] = ⊥
In e (x ∷ l) = (e ≡ x) ⊎ In e l

-- At its key place there is a whole key record, whose text is inside and UTF-8, and right behind it, at its value place, a value's record.
pub record Standing (image text : List ℕ) (m : Mark) : Type 0 where
  pub place : ℕ
  pub size : ℕ
  pub key : record_at image m.key ≡ taken_to (R.Key place size) (to m.value)
  pub stands : Stands text place size
  pub value : is_value image m.value ≡ true
