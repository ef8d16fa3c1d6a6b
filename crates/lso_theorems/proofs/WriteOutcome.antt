-- A reading that is accepted makes an image that can be written.
use Rattle.std.specs.Prelude.{◌+◌, ◌≤◌, ◌≡◌, ◌++◌}
use Rattle.wire.proofs.Kit.{ℕ, refl, sym, ap, List, map, append-nil, arith, length, take, length-append, take-append-drop, length-take-le}
use Rattle.wire.specs.Number.{Bytes}
use Rattle.wire.specs.Limit as limit
use Rattle.wire.proofs.Stands.{Here}
use Rattle.image.specs.Whole.{Whole, bytes}
use Rattle.image.specs.Record.{unplaced}
use Rattle.lso.specs.File.{Lso, File, deepest}
use Rattle.lso.specs.Reading.{Body, header_at, element_at, body_at, ever_due, incomplete_of, whole_of, kept}
use Rattle.lso.specs.Written.{Writable}
use Rattle.lso.proofs.Settle.{ever_bytes}
use Rattle.lso.proofs.Outcome.{thrice, incomplete_cases}
use Rattle.lso_theorems.proofs.Complete.{file_reads, of_body}
use Rattle.lso_theorems.proofs.Stopping.{ended}
use Rattle.image.specs.Due.{Ends, Stops}
use Rattle.image.proofs.Settle.{one_end, all_cases}
use Rattle.lso.proofs.Body.{field_named, element_out}

-- what an accepted call made: within the limit, and what ever falls due is within the room
pub record Made (s : List ℕ) (room : ℕ) (w : Whole) : Type 0 where
  pub header : ℕ
  pub ended : Ends (header_at s) header
  pub text_size : length s ≤ limit.bytes
  pub same : w.bytes ≡ bytes (header_at s) ++ kept (body_at s (length s) header).elements
  pub due : length (bytes (ever_due s header)) ≤ room

-- the image is a part of what falls due
pub due_image : (s : List ℕ) (p : ℕ) → Ends (header_at s) p
    → let b = body_at s (length s) p in length (bytes (header_at s) ++ kept b.elements) + length (bytes b.tried) ≡ length (bytes (ever_due s p))
due_image s p e =
    let x : List ℕ = bytes (header_at s) in
    let b : Body = body_at s (length s) p in
    let k : List ℕ = kept b.elements in
    omega (arith, ap length (ever_bytes s p e), length-append x k, length-append x (k ++ bytes b.tried), length-append k (bytes b.tried))

-- an accepted call made what it read
pub made : (s : List ℕ) (room : ℕ) → (incomplete_of s room).reading.answer ≡ 0 → Made s room (incomplete_of s room)
made s room =
    incomplete_cases s room (λ w. w.reading.answer ≡ 0 → Made s room w) (λ i e. absurd (omega arith))
    (λ i a q f n e. absurd (omega (arith, (field_named n).low))) (λ i p f q j e. absurd (omega arith)) (λ i p f j q g e. absurd (omega arith))
    (λ i p f j a q x g e. record { header = p; ended = f; text_size = i; same = refl; due = j })

-- the image of a file that was read
pub record ReadImage (s : List ℕ) (f : Lso) (w : Whole) : Type 0 where
  pub writable : Writable w.bytes s f
  pub alike : map unplaced writable.images.records ≡ of_body f.body

read_image : {s x r : List ℕ} {f : Lso} (room a q : ℕ) → File f x → deepest f.body ≤ limit.levels → Here s 0 x r → Stops (element_at s (length x)) a q
    → (incomplete_of s room).reading.answer ≡ 0 → ReadImage s f (incomplete_of s room)
read_image {s} {x} {r} room a q g d h e z =
    let y = file_reads g s r a q (length x) d h refl e in
    let m = made s room z in
    let l = m.text_size in
    let one : m.header ≡ y.header = one_end (header_at s) m.ended y.ended in
    let same : (incomplete_of s room).bytes ≡ bytes (header_at s) ++ kept (body_at s (length s) y.header).elements = rw one at m.same in
    rw same
    (record {
      writable = record { text_size = l; image_size = omega (arith, due_image s y.header y.ended, thrice s y.header y.ended); images = y.images l; deep = d };
      alike = y.alike l;
    })

-- where the whole reading accepts it is the incomplete one
pub whole_same : (s : List ℕ) (room : ℕ) → (whole_of s room).reading.answer ≡ 0 → whole_of s room ≡ incomplete_of s room
unfolding whole_of
whole_same s room =
    all_cases s (incomplete_of s room) (λ w. w.reading.answer ≡ 0 → w ≡ incomplete_of s room) (λ n a. refl) (λ a l z. absurd (omega arith)) (λ a l z. refl)

pub whole_image : {s : List ℕ} {f : Lso} (room : ℕ) → File f s → deepest f.body ≤ limit.levels → (whole_of s room).reading.answer ≡ 0
    → ReadImage s f (whole_of s room)
whole_image {s} room g d a =
    let e = whole_same s room a in
    rw e
    (read_image room 2 (length s) g d (record { same = sym (append-nil s) }) (rw (element_out s (length s) (omega arith)) (refl, refl)) (rw e at a))

-- ---- what was read

-- the file that the used bytes of an input are, and its image
pub record WasRead (s : List ℕ) (w : Whole) : Type 0 where
  pub lso : Lso
  pub file : File lso (take w.reading.used s)
  pub used : w.reading.used ≤ length s
  pub image : ReadImage s lso w

pub read_incomplete : (s : List ℕ) (room : ℕ) → Bytes s → (incomplete_of s room).reading.answer ≡ 0 → WasRead s (incomplete_of s room)
read_incomplete s room bs a =
    let x = ended s room bs a in
    let n : ℕ = (incomplete_of s room).reading.used in
    let l : length (take n s) ≡ n = length-take-le n s x.begins.within in
    record {
      lso = x.lso;
      file = x.begins.file;
      used = x.begins.within;
      image = read_image room x.answer x.place x.begins.file x.begins.deep (record { same = sym (take-append-drop n s) }) (rw l x.stopped) a;
    }

pub read_whole : (s : List ℕ) (room : ℕ) → Bytes s → (whole_of s room).reading.answer ≡ 0 → WasRead s (whole_of s room)
read_whole s room bs a = let e = whole_same s room a in rw e (read_incomplete s room bs (rw e at a))
