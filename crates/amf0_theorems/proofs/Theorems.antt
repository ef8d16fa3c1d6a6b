-- The theorems on the reader of values, over what its public call comes to.
use Rattle.std.specs.Prelude.{◌+◌, ◌*◌, ◌≤◌, ◌<◌, ◌≡◌, ◌≢◌, ◌↔◌, ◌++◌}
use Rattle.wire.proofs.Kit.{ℕ, max, refl, sym, ap, ap₂, ◌∙◌, List, [], append-nil, arith, length, take, drop}
use Rattle.wire.proofs.Kit.{length-append, take-append-drop, length-take-le, take-append_seam, leb}
use Rattle.wire.specs.Number.{Bytes}
use Rattle.wire.specs.Limit as limit
use Rattle.wire.proofs.Stands.{here_front}
use Rattle.image.specs.Due.{Due, end, ◌>>=◌, based, shifted, Ends, Lacks}
use Rattle.image.specs.Whole.{Whole, bytes, accepted, refused}
use Rattle.amf0.specs.Reading.{value, top_value, read_of}
use Rattle.amf0.specs.Standard.{Sort, Tree, depth, Encodes}
use Rattle.amf0.specs.Shown.{Shows}
use Rattle.amf0.specs.Span.{Fault}
use Rattle.amf0_theorems.proofs.Call.{value_sober, value_bounded, call_roomy, call_answers, call_refused, call_over_limit, call_room_exact, call_room_place, call_room, call_inside, call_takes}
use Rattle.amf0_theorems.proofs.More.{in_room_more, pick_more}
use Rattle.amf0_theorems.proofs.Complete as completeness
use Rattle.amf0_theorems.proofs.Sound as soundness
use Rattle.amf0_theorems.proofs.Sound.{Found}
use Rattle.amf0_theorems.proofs.Telling.{same_tree, Reads, reads}
use Rattle.amf0_theorems.proofs.Spelling.{shown}
use Rattle.amf0_theorems.proofs.Shifting as shifting
use Rattle.amf0_theorems.proofs.Bytes.{encoding}
use Rattle.image.proofs.Settle.{one_end, on_ends, ended}

-- ---- the reading and the standard

-- the tree that the used bytes of an input encode, and that the image's bytes tell
pub record Means (s : List ℕ) (w : Whole) : Type 0 where
  pub tree : Tree Sort.value
  pub encodes : Encodes Sort.value tree (take w.reading.used s)
  pub deep : depth tree ≤ limit.levels
  pub shows : Shows s tree w.bytes
  pub made : w.reading.made ≡ length w.bytes
  pub used : w.reading.used ≤ length s

found_means : (s : List ℕ) (n : ℕ) → length s ≤ limit.bytes → Found Sort.value limit.levels s 0 n → n ≤ length s → Means s (accepted n (bytes (top_value s 0)))
found_means s n b f l =
    let e : n ≡ length f.row = omega arith in
    record {
      tree = f.tree;
      encodes = rw (e, f.here.same, take-append_seam f.row f.rest) f.encodes;
      deep = f.deep;
      shows = shown s f.rest 0 f.encodes f.here f.deep b;
      made = refl;
      used = l;
    }

-- What is accepted is a value: the bytes used encode a tree of the standard's, at most as deep as the limit, and the image tells that tree.
pub sound : (s : List ℕ) (room : ℕ) → Bytes s → (read_of s room).reading.answer ≡ 0 → Means s (read_of s room)
sound s room bs e =
    let t = call_takes s (top_value s 0) room (value_bounded s) e in
    let n : ℕ = (read_of s room).reading.used in
    rw t.result (found_means s n t.small (soundness.sound limit.levels s 0 n bs t.ends) t.within)

-- an acceptance of n bytes, with an image that tells the tree t
pub record Accepts (s : List ℕ) (t : Tree Sort.value) (n : ℕ) (w : Whole) : Type 0 where
  pub answer : w.reading.answer ≡ 0
  pub used : w.reading.used ≡ n
  pub shows : Shows s t w.bytes

-- Every value of the standard's within the limits is accepted, whatever follows it, where the room is three times the input: all its bytes and no more
-- are used, and the image tells its tree.
pub complete : (t : Tree Sort.value) (x r : List ℕ) (room : ℕ) → Encodes Sort.value t x → depth t ≤ limit.levels → length (x ++ r) ≤ limit.bytes
    → 3 * length (x ++ r) ≤ room → Accepts (x ++ r) t (length x) (read_of (x ++ r) room)
complete t x r room e l h i =
    let y = reads limit.levels (x ++ r) r 0 e (record { same = refl }) l in
    let d : Due = top_value (x ++ r) 0 in
    rw (call_roomy (x ++ r) d room h (omega (arith, (value_bounded (x ++ r)).small)), on_ends d (0 + length x) _ _ y.ends)
    (record { answer = refl; used = omega arith; shows = shown (x ++ r) r 0 e (record { same = refl }) l h })

-- Within the limit, and where the room is three times the input, a call accepts exactly where the input begins with a value of the standard's.
pub exactly : (s : List ℕ) (room : ℕ) → Bytes s → length s ≤ limit.bytes → 3 * length s ≤ room
    → (read_of s room).reading.answer ≡ 0 ↔ (t : Tree Sort.value) × (n : ℕ) × Encodes Sort.value t (take n s) × (depth t ≤ limit.levels)
exactly s room bs h i = (
  λ e. let m = sound s room bs e in (m.tree, (read_of s room).reading.used, m.encodes, m.deep),
  λ v.
      let x = take v.1 s in
      let y = drop v.1 s in
      let same : x ++ y ≡ s = take-append-drop v.1 s in
      rw same at (complete v.0 x y room v.2 v.3 (rw same h) (rw same i)).answer,
)

-- No row of bytes encodes two values, and none that encodes a value begins another.
pub unique : (t u : Tree Sort.value) (x y r q : List ℕ) → Encodes Sort.value t x → Encodes Sort.value u y → x ++ r ≡ y ++ q → (t ≡ u) × (x ≡ y)
unique t u x y r q e f same =
    let left : ℕ = max (depth t) (depth u) in
    let a : Reads left (x ++ r) 0 (0 + length x) t = reads left (x ++ r) r 0 e (record { same = refl }) (omega arith) in
    let b : Reads left (x ++ r) 0 (0 + length y) u = reads left (x ++ r) q 0 f (record { same = same }) (omega arith) in
    let long : length x ≡ length y = omega (arith, one_end (value left (x ++ r) 0) a.ends b.ends) in (
      same_tree t u (sym a.tells ∙ b.tells),
      sym (take-append_seam x r) ∙ (ap₂ take long same ∙ take-append_seam y q),
    )

-- Every encoding is a row of bytes.
pub encodes_bytes : (k : Sort) (t : Tree k) (x : List ℕ) → Encodes k t x → Bytes x
encodes_bytes k t x e = encoding e

-- ---- the room

-- In a room of three bytes for each byte of the input, no reading is refused for room.
pub room_enough : (s : List ℕ) (room : ℕ) → 3 * length s ≤ room → (read_of s room).reading.answer ≢ 4
room_enough s room = call_room s (top_value s 0) room (value_bounded s)

-- Within the limit, the answer is 4 exactly where the records that the reading finds have more bytes than the room.
pub room_exact : (s : List ℕ) (room : ℕ) → length s ≤ limit.bytes → (read_of s room).reading.answer ≡ 4 ↔ room < length (bytes (top_value s 0))
room_exact s room = call_room_exact s (top_value s 0) room (value_bounded s)

-- And its place is then that of the first record that has no room.
pub room_place : (s : List ℕ) (room p : ℕ) → length s ≤ limit.bytes → read_of s room ≡ refused 4 p ↔ Lacks (top_value s 0) 0 room p
room_place s room p = call_room_place s (top_value s 0) room (value_bounded s) p

-- Where a room does, every larger room gives the same.
pub room_more : (s : List ℕ) (room more : ℕ) → room ≤ more → (read_of s room).reading.answer ≢ 4 → read_of s more ≡ read_of s room
room_more s = pick_more (leb (length s) limit.bytes) (refused 1 0) (in_room_more (top_value s 0) accepted refused)

-- ---- the answers

-- The answer is one of 0 to 5.
pub answers : (s : List ℕ) (room : ℕ) → (read_of s room).reading.answer ≤ 5
answers s room = call_answers s (top_value s 0) room (λ a. a ≤ 5) (omega arith) (omega arith) (omega arith) λ a p t. high ((value_sober s).faults a p t)
  where
    high : {a : ℕ} → Fault a → a ≤ 5
    high Fault.short = omega arith
    high Fault.malformed = omega arith
    high Fault.too_deep = omega arith

-- The answer is 1 exactly where the input is over the limit.
pub over_limit : (s : List ℕ) (room : ℕ) → (read_of s room).reading.answer ≡ 1 ↔ limit.bytes < length s
over_limit s room = call_over_limit s (top_value s 0) room (value_bounded s)

-- A refusal returns a place for the bytes used, and makes no byte of the image.
pub refused_empty : (s : List ℕ) (room : ℕ) → (read_of s room).reading.answer ≢ 0
    → read_of s room ≡ refused (read_of s room).reading.answer (read_of s room).reading.used
refused_empty s room = call_refused s (top_value s 0) room

-- The bytes used, or the place of a refusal, are inside the input.
pub place_inside : (s : List ℕ) (room : ℕ) → (read_of s room).reading.used ≤ length s
place_inside s room = call_inside s (top_value s 0) room (value_bounded s)

-- ---- places

-- A value further on in an input is read as where it stands first, with every place moved.
pub shift : (left : ℕ) (x s : List ℕ) (at : ℕ) → value left (x ++ s) (length x + at) ≡ shifted (length x) (value left s at)
shift = shifting.shift

-- So a part's reading, with its places counted from the whole's start, is what the whole is read as there, but for where it ends.
pub part : (left : ℕ) (x s : List ℕ) (at : ℕ)
    → value left (x ++ s) (length x + at) ≡ based (length x) (value left s at) >>= λ n. end (length x + n)
part left x s at = shift left x s at ∙ shifting.based_shifted (length x) (value left s at)

-- What follows the bytes that a value takes does not change how it is read.
pub local : (left : ℕ) (x r q : List ℕ) (at n : ℕ) → Bytes (x ++ r) → Ends (value left (x ++ r) at) n → n ≤ length x
    → value left (x ++ q) at ≡ value left (x ++ r) at
local left x r q at n bs e l = go (soundness.sound left (x ++ r) at n bs e)
  where
    go : Found Sort.value left (x ++ r) at n → value left (x ++ q) at ≡ value left (x ++ r) at
    go f =
        let h = here_front x r q f.row f.rest at f.here (omega arith) in
        completeness.complete f.encodes (x ++ q) _ at n left (length f.row) h f.next f.deep (omega arith)
        ∙ sym (completeness.complete f.encodes (x ++ r) f.rest at n left (length f.row) f.here f.next f.deep (omega arith))

-- So an accepted call comes to the same with other bytes behind those that it used.
pub local_call : (x r q : List ℕ) (room : ℕ) → Bytes (x ++ r) → length (x ++ q) ≤ limit.bytes → (read_of (x ++ r) room).reading.answer ≡ 0
    → (read_of (x ++ r) room).reading.used ≤ length x → read_of (x ++ q) room ≡ read_of (x ++ r) room
local_call x r q room bs h e u =
    let t = call_takes (x ++ r) (top_value (x ++ r) 0) room (value_bounded (x ++ r)) e in
    let same = local limit.levels x r q 0 (read_of (x ++ r) room).reading.used bs t.ends u in
    call_roomy (x ++ q) (top_value (x ++ q) 0) room h (rw same t.fits)
    ∙ (ap (λ d. ended d (bytes d)) same ∙ sym (call_roomy (x ++ r) (top_value (x ++ r) 0) room t.small t.fits))

-- And it comes to the same on the bytes that it used alone.
pub alone : (s : List ℕ) (room : ℕ) → Bytes s → (read_of s room).reading.answer ≡ 0 → read_of (take (read_of s room).reading.used s) room ≡ read_of s room
alone s room bs e =
    let n : ℕ = (read_of s room).reading.used in
    let m = sound s room bs e in
    let same : take n s ++ drop n s ≡ s = take-append-drop n s in
    let l : length (take n s) ≡ n = length-take-le n s m.used in
    let short : length (take n s ++ []) ≤ limit.bytes = omega (arith, length-append (take n s) [], (call_takes s (top_value s 0) room (value_bounded s) e).small, m.used) in
    rw (append-nil (take n s), same) at (local_call (take n s) (drop n s) [] room (rw same bs) short (rw same e) (rw same (omega arith)))
