-- What the records of a file show: its length and its name, and then its elements told from left to right, its texts taken out of the input.
use Rattle.std.specs.Prelude.{ℕ, ◌≡◌, List, [], ◌∷◌, length}
use Rattle.wire.specs.Field.{bytes_at}
use Rattle.image.specs.declared.record.Record.{Record}
use Rattle.image.specs.Taking.{Fits}
use Rattle.amf0.specs.Shown.{Word, told, words, laid, Stands, Right}
use Rattle.amf0.specs.Shown.Word.{name}
use Rattle.lso.specs.File.{Body, Lso}
use Rattle.lso.specs.File.Body.{none, element}

-- the words of a file's elements
abbrev pub told_body : Body → List Word
told_body none = []
told_body (element k v b) = name k ∷ told v (told_body b)

-- image bytes that are the record of a file's length and name, and then records which tell its elements; all can stand in an image over the input s
pub record Shows (s : List ℕ) (file : Lso) (image : List ℕ) : Type 0 where
  pub place : ℕ
  pub records : List Record
  pub fits : Fits (Record.Lso file.stored place (length file.name))
  pub stands : Stands s place (length file.name)
  pub right : Right s records
  pub names : bytes_at (length file.name) s place ≡ file.name
  pub tells : words s records ≡ told_body file.body
  pub lies : image ≡ laid (Record.Lso file.stored place (length file.name) ∷ records)
