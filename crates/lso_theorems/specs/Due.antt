-- What stands where a record of a file is due, which is what a refusal for room names.
use Rattle.std.specs.Prelude.{ℕ, ◌≡◌, List}
use Rattle.image.specs.declared.record.Record.{Record}
use Rattle.image.specs.declared.record.Record.TheVariants.{Lso}
use Rattle.amf0_theorems.specs.Due as value

-- the file's own record is due at its front; any other, at the key of its element or in the value behind that
pub data DueAt (s : List ℕ) (r : Record) (place : ℕ) : Type 0 where
  file : {stored p n : ℕ} → r ≡ Lso stored p n → place ≡ 0 → DueAt s r place
  inside : value.DueAt s r place → DueAt s r place
