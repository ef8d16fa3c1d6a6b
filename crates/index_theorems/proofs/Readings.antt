-- What was read has an index: its image is refused for the room alone.
use Rattle.std.specs.Prelude.{◌≡◌, ◌∷◌}
use Rattle.wire.proofs.Kit.{ℕ, List, length}
use Rattle.wire.specs.Number.{Bytes}
use Rattle.image.specs.declared.record.Record.TheVariants as R
use Rattle.amf0.specs.Standard.{Sort, Tree}
use Rattle.amf0.specs.Reading.{read_of}
use Rattle.amf0.specs.Written as amf0
use Rattle.amf0_theorems.proofs.Theorems.{sound}
use Rattle.amf0_theorems.proofs.WriteTheorems.{read_writable}
use Rattle.lso.specs.File.{Lso}
use Rattle.lso.specs.Reading.{incomplete_of, whole_of}
use Rattle.lso.specs.Written as lso
use Rattle.lso_theorems.proofs.WriteOutcome.{read_incomplete, read_whole}
use Rattle.index_theorems.proofs.Reasons.{of_records, Meant, Indexes, meant_indexes}

tree_indexes : {image s : List ℕ} {t : Tree Sort.value} (room : ℕ) → amf0.Writable image s t → Indexes image s room
tree_indexes {image} {s} room w = meant_indexes image s room (rw w.images.lies (of_records w.images.records)) (Meant.of_tree w)

file_indexes : {image s : List ℕ} {f : Lso} (room : ℕ) → lso.Writable image s f → Indexes image s room
file_indexes {image} {s} {f} room w =
    meant_indexes image s room (rw w.images.lies (of_records (R.Lso f.stored w.images.place (length f.name) ∷ w.images.records))) (Meant.of_file w)

-- A value that was read has an index: its image is refused for the room alone.
pub read_indexed : (s : List ℕ) (room more : ℕ) → Bytes s → (read_of s room).reading.answer ≡ 0 → Indexes (read_of s room).bytes s more
read_indexed s room more bs e = tree_indexes more (read_writable s room e (sound s room bs e))

-- So has a file that was read whole.
pub file_read_indexed : (s : List ℕ) (room more : ℕ) → Bytes s → (whole_of s room).reading.answer ≡ 0 → Indexes (whole_of s room).bytes s more
file_read_indexed s room more bs e = file_indexes more (read_whole s room bs e).image.writable

-- And so has the part of a file that was read.
pub file_read_indexed_incomplete : (s : List ℕ) (room more : ℕ) → Bytes s → (incomplete_of s room).reading.answer ≡ 0 → Indexes (incomplete_of s room).bytes s more
file_read_indexed_incomplete s room more bs e = file_indexes more (read_incomplete s room bs e).image.writable
