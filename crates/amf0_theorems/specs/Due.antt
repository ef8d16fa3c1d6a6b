-- What stands where a record of a value is due, which is what a refusal for room names: with no word of a reader, by the standard's rows.
use Rattle.std.specs.Prelude.{ℕ, ◌≡◌, List, ◌∷◌, ◌++◌, drop}
use Rattle.image.specs.declared.record.Record.{Record}
use Rattle.amf0.specs.Standard.{UTF-8, Row}
use Rattle.amf0.specs.Standard as standard
use Rattle.amf0.specs.Shown.{Word, look}

-- the marker and the fields of the value that the record says, the length and the letters of the name that it says, or the end marker of a container
pub data DueAt (s : List ℕ) (r : Record) (place : ℕ) : Type 0 where
  value : {i : standard.Item} {x : List ℕ} (rest : List ℕ) → Row i x → drop place s ≡ x ++ rest → look s r ≡ Word.item i → DueAt s r place
  key : {k x : List ℕ} (rest : List ℕ) → UTF-8 k x → drop place s ≡ x ++ rest → look s r ≡ Word.name k → DueAt s r place
  end : (rest : List ℕ) → drop place s ≡ 0x09 ∷ rest → look s r ≡ Word.close → DueAt s r place
