-- Every encoding of a value is a row of bytes.
use Rattle.std.specs.Prelude.{◌∷◌, ◌++◌}
use Rattle.wire.proofs.Kit.{ℕ, List, [], length, lit<}
use Rattle.wire.specs.Number.{digits, Bytes}
use Rattle.amf0.specs.Standard.{Sort, Tree, Encodes}
use Rattle.amf0.specs.Standard.UTF-8.{short}
use Rattle.amf0_theorems.proofs.Marked.{marked}
pub use Rattle.amf0_theorems.proofs.Marked.{◌also◌, both, number, text}

-- those of a value, of properties, or of values in a row
pub encoding : {k : Sort} {t : Tree k} {x : List ℕ} → Encodes k t x → Bytes x
encoding (Encodes.node {x} {y} row e) = both x y (marked row).bytes (encoding e)
encoding Encodes.end = (lit< tt also lit< tt also lit< tt also tt)
encoding (Encodes.departure_named_end (short k h u) l) = both (digits 2 (length k) ++ k) (9 ∷ []) (text 2 k u) (lit< tt also tt)
encoding (Encodes.property {y} {z} (short k h u) e f) = both (digits 2 (length k) ++ k) (y ++ z) (text 2 k u) (both y z (encoding e) (encoding f))
encoding Encodes.nil = tt
encoding (Encodes.cons {x} {y} e f) = both x y (encoding e) (encoding f)
