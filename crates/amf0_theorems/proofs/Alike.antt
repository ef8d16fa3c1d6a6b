-- The records that are read of two encodings of a tree are the same but for the places of texts.
use Rattle.std.specs.Prelude.{◌+◌, ◌≤◌, ◌≡◌}
use Rattle.wire.proofs.Kit.{ℕ, refl, sym, ap, ◌∙◌, List, [], map, arith, length}
use Rattle.wire.specs.Limit as limit
use Rattle.wire.proofs.Stands.{Here}
use Rattle.image.specs.Due.{end}
use Rattle.image.specs.Whole.{bytes}
use Rattle.amf0.specs.Reading.{top_value}
use Rattle.amf0.specs.Standard.{Sort, Tree, depth, Encodes}
use Rattle.amf0.specs.Shown.{Right}
use Rattle.image.specs.Record.{unplaced}
use Rattle.amf0.specs.Written.{Alike}
use Rattle.amf0_theorems.proofs.Complete.{complete}
use Rattle.amf0_theorems.proofs.Spelling.{read_right}
use Rattle.amf0_theorems.proofs.Telling.{records_of, bytes_laid, recorded}
pub use Rattle.amf0_theorems.proofs.Telling.{of_tree_lem}

-- what is read of an encoding that stands at a place
pub record Of (s : List ℕ) (at : ℕ) (t : Tree Sort.value) : Type 0 where
  pub right : Right s (records_of (top_value s at))
  pub same : map unplaced (records_of (top_value s at)) ≡ of_tree_lem t []

pub read : {t : Tree Sort.value} (s x z : List ℕ) (at : ℕ) → Encodes Sort.value t x → Here s at x z → depth t ≤ limit.levels → length s ≤ limit.bytes → Of s at t
read s x z at e h d l =
    let c = complete e s z at (at + length x) limit.levels (length x) h refl d (omega arith) in
    record {
      right = read_right s z at e h d l;
      same = ap (λ g. map unplaced (records_of g)) c ∙ (recorded e s z limit.levels at (end (at + length x)) h).alike;
    }

pub read_alike : {s x z b y w : List ℕ} {at to : ℕ} {t : Tree Sort.value} → Encodes Sort.value t x → Here s at x z → Encodes Sort.value t y → Here b to y w
    → depth t ≤ limit.levels → length s ≤ limit.bytes → length b ≤ limit.bytes
    → Alike s b (bytes (top_value s at)) (bytes (top_value b to))
read_alike {s} {x} {z} {b} {y} {w} {at} {to} e h f i d l k =
    let m = read s x z at e h d l in
    let n = read b y w to f i d k in
    record {
      first = records_of (top_value s at);
      second = records_of (top_value b to);
      right = m.right;
      right_too = n.right;
      lies = bytes_laid (top_value s at);
      lies_too = bytes_laid (top_value b to);
      same = m.same ∙ sym n.same;
    }
