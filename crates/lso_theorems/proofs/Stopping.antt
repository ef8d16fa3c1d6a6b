-- How the definition's readings end, said by the grammar: what the theorems on the readings are proved by.
use Rattle.std.specs.Prelude.{◌≤◌, ◌≡◌, ◌++◌}
use Rattle.wire.proofs.Kit.{ℕ, refl, sym, ◌∙◌, List, arith, length, take, drop, length-append, take-append-drop, length-take-le}
use Rattle.wire.specs.Number.{Bytes}
use Rattle.wire.specs.Limit as limit
use Rattle.wire.proofs.Laws.{pick_yes}
use Rattle.wire.proofs.Stands.{Here}
use Rattle.image.specs.Due.{Ends, Stops}
use Rattle.image.specs.Whole.{Whole, bytes, refused}
use Rattle.image.proofs.Settle.{one_end, on_stops}
use Rattle.amf0.specs.Standard.UTF-8.{short}
use Rattle.lso.specs.File as file
use Rattle.lso.specs.File.{Lso, Elements, File, padding}
use Rattle.lso.specs.Reading.{header_at, element_at, body_at, kept, ever_due, incomplete_of}
use Rattle.lso.specs.Shown.{Shows}
use Rattle.lso.proofs.Stands.{Either}
use Rattle.lso.proofs.Body.{field_named}
use Rattle.lso.proofs.Outcome.{incomplete_cases, roomy, halted_either}
use Rattle.lso_theorems.specs.Refusal.{Begins, Heads}
use Rattle.lso_theorems.proofs.Complete.{header_reads, Reads, file_reads}
use Rattle.lso_theorems.proofs.Sound.{file_sound}

-- ---- a row at the front

-- the bytes of a file at the front, and their number
front : {s : List ℕ} {f : Lso} {n : ℕ} → Begins s f n → Here s 0 (take n s) (drop n s)
front {s} {n} b = record { same = sym (take-append-drop n s) }

long : {s : List ℕ} {f : Lso} {n : ℕ} → Begins s f n → n ≡ length (take n s)
long {s} {n} b = sym (length-take-le n s b.within)

-- ---- the header

-- no elements have no bytes
no_bytes : {b : file.Body} {z : List ℕ} → Elements b z → b ≡ file.Body.none → length z ≡ 0
no_bytes Elements.none e = refl
no_bytes (Elements.element t c els) e = let z : ◌≡◌ {A = ℕ} 0 1 = cc in absurd (omega arith)

-- a header that stands at the front is read
pub heads_end : {s : List ℕ} {p : ℕ} → Heads s p → Ends (header_at s) p
heads_end {s} {p} h = go h.begins.file refl (front h.begins) (long h.begins)
  where
    go : {f : Lso} {x r : List ℕ} → File f x → f.body ≡ file.Body.none → Here s 0 x r → p ≡ length x → Ends (header_at s) p
    go {r} (File.file {stored} {z} l (short t b u) els) e g i =
        rw (header_reads stored t z s r l b u g) (omega (arith, no_bytes els e, length-append t (padding ++ z)))

-- ---- a file and the element behind it

-- a file that stands at the front is read, where the element behind it stops
module _ {s : List ℕ} {f : Lso} {n : ℕ} (b : Begins s f n) (a q : ℕ) (g : Stops (element_at s n) a q) where
  pub reads : Reads s f n
  reads = file_reads b.file s (drop n s) a q n b.deep (front b) (long b) g

  module _ (p : ℕ) (e : Ends (header_at s) p) where
    same : reads.header ≡ p
    same = one_end (header_at s) reads.ended e

    pub used : (body_at s (length s) p).at ≡ n
    used = rw same at reads.body

    pub shown : length s ≤ limit.bytes → Shows s f (bytes (header_at s) ++ kept (body_at s (length s) p).elements)
    shown l = rw same at (reads.shows l)

-- ---- what the incomplete reading comes to

-- what was accepted: a file up to where an element stopped with 2 or 3
pub record Ended (s : List ℕ) (w : Whole) : Type 0 where
  pub lso : Lso
  pub begins : Begins s lso w.reading.used
  pub shows : Shows s lso w.bytes
  pub made : w.reading.made ≡ length w.bytes
  pub answer : ℕ
  pub either : Either answer
  pub place : ℕ
  pub stopped : Stops (element_at s w.reading.used) answer place

-- what is accepted is so
pub ended : (s : List ℕ) (room : ℕ) → Bytes s → (incomplete_of s room).reading.answer ≡ 0 → Ended s (incomplete_of s room)
ended s room bs =
    incomplete_cases s room (λ w. w.reading.answer ≡ 0 → Ended s w) (λ i e. absurd (omega arith)) (λ i a q f n e. absurd (omega (arith, (field_named n).low)))
    (λ i p f q j e. absurd (omega arith)) (λ i p f j q g e. absurd (omega arith))
    (λ h p f i a q x g e.
    let b = (file_sound s bs p f).1 in
    record {
      lso = (file_sound s bs p f).0;
      begins = b;
      shows = shown b a q g p f h;
      made = refl;
      answer = a;
      either = x;
      place = q;
      stopped = g;
    })

-- an acceptance of n bytes, with an image that shows the file f
pub record Accepts (s : List ℕ) (f : Lso) (n : ℕ) (w : Whole) : Type 0 where
  pub answer : w.reading.answer ≡ 0
  pub used : w.reading.used ≡ n
  pub shows : Shows s f w.bytes

module _ (s : List ℕ) (room : ℕ) (h : length s ≤ limit.bytes) where
  -- where the header stops the call is refused
  pub refused_header : (a q : ℕ) → Stops (header_at s) a q → incomplete_of s room ≡ refused a q
  unfolding incomplete_of
  refused_header a q e = pick_yes (length s) limit.bytes _ _ h ∙ on_stops (header_at s) a q _ _ e

  module _ {f : Lso} {n : ℕ} (p : ℕ) (b : Begins s f n) (e : Ends (header_at s) p) (r : length (bytes (ever_due s p)) ≤ room) where
    -- a file behind which an element stops with 2 or 3 is accepted, where there is room
    pub accepts_file : (a q : ℕ) → Either a → Stops (element_at s n) a q → Accepts s f n (incomplete_of s room)
    accepts_file a q x g =
        let u = used b a q g p e in
        rw (roomy s p e room a q h r (rw u g) ∙ halted_either q _ x) (record { answer = refl; used = u; shows = shown b a q g p e h })

    -- and where it stops with 5 the call is refused
    pub refused_deep : (q : ℕ) → Stops (element_at s n) 5 q → incomplete_of s room ≡ refused 5 q
    refused_deep q g = roomy s p e room 5 q h r (rw (used b 5 q g p e) g)
