-- What demand 3 says of calls of two kinds: an entry beside the value reader, and the entries beside the whole packet.
use Rattle.std.specs.Prelude.{◌<◌, ◌≡◌, ◌≢◌, ◌∷◌, ◌++◌}
use Rattle.wire.proofs.Kit.{ℕ, suc, List, [], length, get_or, take}
use Rattle.wire.specs.Number.{Bytes}
use Rattle.image.specs.declared.reading.Reading.{Reading}
use Rattle.image.specs.declared.record.Record.TheVariants as R
use Rattle.image.specs.Record.{bytes_of}
use Rattle.amf0.specs.Span.{Changed, Judged}
use Rattle.packet.specs.declared.head.Entry.{Entry}
use Rattle.packet.specs.Reading.{record_of}
use Rattle.packet.specs.declared.entry.Cutting.{Cutting}
use Rattle.packet.specs.Entry.{no_entry}
use Rattle.packet.specs.Change.{known_spans}
use Rattle.demands.specs.Forms.{made}
use Rattle.demands.proofs.Calls.{ParseSingleElement, ParseEntry, Cut}

-- What holds where s is a packet that the cut accepts, with so many entries, as `cut` lists them, and t has other bytes inside their values with a known length and
-- nothing else.
abbrev pub Changes : (List ℕ → List ℕ → ℕ → Type 0) → Type 0
Changes P = (s t : List ℕ) (list left : List Entry) (c : Cutting) → Bytes s → Cut s list c left → c.answer ≡ 0
    → Changed (known_spans s (take c.count left)) s t → P s t c.count

-- a call on an entry answers as the value reader does, in the same room, on the bytes v of its value alone, which begin at a place of the packet
abbrev pub Alone : ℕ → List ℕ → (List ℕ → Reading → List ℕ → Type 0) → Type 0
Alone place v Call = (i j x y : List ℕ) (r q : Reading) → ParseSingleElement v i r x → Call j q y → length j ≡ length i → Judged place v (made r x) (made q y)

-- the image of entries, the first of which has the number k, where f has the image of each entry's value: each entry's record, and then its value
abbrev pub images_of : (ℕ → List ℕ) → ℕ → List Entry → List ℕ
images_of f k [] = []
images_of f k (e ∷ es) = bytes_of (record_of e) ++ (f k ++ images_of f (suc k) es)

-- b is what `parse_entry` made of the entry with the number k in a room
pub record Made (s : List ℕ) (room k : ℕ) (b : List ℕ) : Type 0 where
  pub image : List ℕ
  pub left : List ℕ
  pub reading : Reading
  pub call : ParseEntry s k image reading left
  pub same_room : length image ≡ room
  pub made : b ≡ take reading.made left

-- the packet is cut into its headers and messages, each entry is accepted in that room, and its image stands, behind its record, in the whole image
pub record Agrees (s : List ℕ) (room : ℕ) (whole : List ℕ) : Type 0 where
  pub headers : List Entry
  pub messages : List Entry
  pub cut : (list left : List Entry) (c : Cutting) → Cut s list c left → c.answer ≢ 4 → (c.answer ≡ 0) × (take c.count left ≡ headers ++ messages)
  pub accepts : (k : ℕ) (j : List ℕ) (q : Reading) (y : List ℕ) → k < length (headers ++ messages) → ParseEntry s k j q y → length j ≡ room
      → (q.answer ≡ 0) × (q.used ≡ (get_or (headers ++ messages) k no_entry).length)
  pub image : (f : ℕ → List ℕ) → ((k : ℕ) → k < length (headers ++ messages) → Made s room k (f k))
      → whole ≡ bytes_of (R.Packet (length headers) (length messages)) ++ images_of f 0 (headers ++ messages)
