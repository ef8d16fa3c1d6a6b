-- The index of an image, and what the public call comes to.
use Rattle.std.specs.Prelude.{ℕ, suc, ◌/◌, ◌≡◌, List, [], leb, length, Some, None}
use Rattle.wire.specs.Choice.{pick}
use Rattle.wire.specs.Field.{to}
use Rattle.wire.specs.Limit as limit
use Rattle.wire.specs.declared.cursor.Cursor.{Cursor}
use Rattle.image.specs.Taking.{Taken, record_at}
use Rattle.image.specs.Out.{Out, end, stop, put, bytes as bytes_out, named_at}
use Rattle.image.specs.Whole.{padded}
use Rattle.amf0.specs.Writing.{whole}
use Rattle.index.specs.declared.make.Indexing.{Indexing}
use Rattle.index.specs.declared.mark.Mark.{Mark}
use Rattle.index.specs.declared.walk.Rest.TheVariants.{Body, Values}
use Rattle.index.specs.declared.walk.Role.{Role}
use Rattle.index.specs.Mark.{flat, rows}
use Rattle.index.specs.Order.{before}
use Rattle.index.specs.Sort.{Sorted}
use Rattle.index.specs.Keys.{role_of, Begun, begun_to, owned, rest, value}

-- one value, from the image's start on
abbrev pub alone : Begun
alone = begun_to (to 0) (Values 1)

abbrev pub root_by : List ℕ → Role → Cursor → Begun
root_by text (Role.Value p n f) c = alone
root_by text (Role.Key p n) c = alone
root_by text (Role.File p n) c = pick (named_at text p n) (begun_to c Body) None
root_by text Role.End c = alone
root_by text Role.Other c = alone

abbrev pub root_in : List ℕ → Taken → Begun
root_in text (Some x) = root_by text (role_of x.0) x.1
root_in text None = alone

-- a file's elements, behind its record, or one value
unfoldable pub root_of : List ℕ → List ℕ → Begun
root_of image text = root_in text (record_at image 0)

-- the marks of the keys in the order of reading, and the image's own refusals; bytes past the end are 6
unfoldable pub keys_of : List ℕ → List ℕ → Out
keys_of image text =
    whole image (owned 0 (root_of image text) λ q due. rest (value limit.levels image text) image text 0 1 (suc (length image)) due q)

-- an answer, and the keys that the index is then of, in the order of reading
pub record Indexed : Type 0 where
  pub answer : ℕ
  pub keys : List Mark

abbrev pub unindexed : ℕ → Indexed
unindexed a = record { answer = a; keys = [] }

-- the keys whose marks these bytes are
abbrev pub keyed : List ℕ → Indexed
keyed b = record { answer = 0; keys = rows (length b / 13) b }

-- the answer of a walk that is refused, or else this
unfoldable pub unless : Out → Indexed → Indexed
unless (end n) x = x
unless (stop a p) x = unindexed a
unless (put b d) x = unless d x

abbrev pub indexed : Out → ℕ → Indexed
indexed d room = unless d (pick (leb (length (bytes_out d)) room) (keyed (bytes_out d)) (unindexed 4))

-- what the public call comes to, in a room
abbrev pub index_of : List ℕ → List ℕ → ℕ → Indexed
index_of image text room =
    pick (leb (length text) limit.bytes)
    (pick (leb (length image) limit.image) (indexed (keys_of image text) room) (unindexed 1))
    (unindexed 1)

abbrev pub indexing : Indexed → Indexing
indexing x = record { answer = x.answer; count = length x.keys }

-- a buffer holds the marks of keys in order, and zeros behind them
pub record Holds (image text : List ℕ) (keys : List Mark) (index : List ℕ) : Type 0 where
  pub row : List Mark
  pub sorted : Sorted (before image text) keys row
  pub bytes : index ≡ padded (flat row) (length index)
