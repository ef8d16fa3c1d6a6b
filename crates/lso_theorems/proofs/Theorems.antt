-- The theorems on the reader of files, over what its two public calls come to.
use Rattle.std.specs.Prelude.{◌*◌, ◌≤◌, ◌<◌, ◌≡◌, ◌≢◌, ◌↔◌, ◌++◌}
use Rattle.wire.proofs.Kit.{ℕ, refl, sym, ap, ◌∙◌, inl, inr, ⊎_elim, List, append-nil, arith, length, take, take_all, leb}
use Rattle.wire.specs.Number.{Bytes}
use Rattle.wire.specs.Limit as limit
use Rattle.image.specs.Due.{Ends, Stops, Lacks}
use Rattle.image.specs.Whole.{Whole, bytes, accepted, refused, all}
use Rattle.image.proofs.Settle.{one_end, ends_not, lacks_over, one_lack, due_lacks, all_cases, answer_of_lem, used_of}
use Rattle.amf0_theorems.proofs.More.{in_room_more, pick_more, end_more, pass_more, all_iff, all_refusal}
use Rattle.amf0_theorems.proofs.Refused.{refused_inside}
use Rattle.lso.specs.File.{Lso, File, deepest}
use Rattle.lso.specs.Reading.{header_at, element_at, ever_due, incomplete_of, whole_of}
use Rattle.lso.specs.Shown.{Shows}
use Rattle.lso.proofs.Stands.{Either}
use Rattle.lso.proofs.Body.{field_named, element_out, behind, ever_inside}
use Rattle.lso.proofs.Outcome.{incomplete_cases, thrice, whole_used}
use Rattle.lso_theorems.specs.Refusal.{RefusedHeader, Halts, Begins, Heads, Roomy}
use Rattle.lso_theorems.proofs.Sound.{begins}
use Rattle.lso_theorems.proofs.Stopping.{heads_end, reads, Ended, ended, Accepts, refused_header, accepts_file}
use Rattle.lso_theorems.proofs.Refusals.{header_refused, element_refused, halts_end, end_halts}
use Rattle.lso_theorems.proofs.Files.{same_file}

-- ---- the reading and the file

-- the file that the used bytes of an input are, and that the image's bytes show
pub record Means (s : List ℕ) (w : Whole) : Type 0 where
  pub lso : Lso
  pub file : File lso (take w.reading.used s)
  pub deep : deepest lso.body ≤ limit.levels
  pub shows : Shows s lso w.bytes
  pub made : w.reading.made ≡ length w.bytes
  pub used : w.reading.used ≤ length s

means : {s : List ℕ} {w : Whole} → Ended s w → Means s w
means e = record { lso = e.lso; file = e.begins.file; deep = e.begins.deep; shows = e.shows; made = e.made; used = e.begins.within }

-- the file that an input is, and that the image's bytes show
pub record Entire (s : List ℕ) (w : Whole) : Type 0 where
  pub lso : Lso
  pub file : File lso s
  pub deep : deepest lso.body ≤ limit.levels
  pub shows : Shows s lso w.bytes
  pub made : w.reading.made ≡ length w.bytes
  pub used : w.reading.used ≡ length s

-- What the whole reading accepts is a file: all bytes of the input are a file at most as deep as the limit, and the image shows it.
pub sound_whole : (s : List ℕ) (room : ℕ) → Bytes s → (whole_of s room).reading.answer ≡ 0 → Entire s (whole_of s room)
unfolding whole_of
sound_whole s room bs =
    all_cases s (incomplete_of s room) (λ w. w.reading.answer ≡ 0 → Entire s w) (λ n e. absurd (n e)) (λ n l e. absurd (omega arith))
    (λ e l f.
    let m = means (ended s room bs e) in
    let u = m.used in
    record {
      lso = m.lso;
      file = rw (take_all (incomplete_of s room).reading.used s l) at m.file;
      deep = m.deep;
      shows = m.shows;
      made = m.made;
      used = omega arith;
    })

completes : {s : List ℕ} {f : Lso} {n : ℕ} (room a q : ℕ) → Begins s f n → length s ≤ limit.bytes → 3 * length s ≤ room → Either a
    → Stops (element_at s n) a q → Accepts s f n (incomplete_of s room)
completes {s} room a q b h i x g =
    let r = reads b a q g in
    accepts_file s room h r.header b r.ended (omega (arith, thrice s r.header r.ended)) a q x g

-- Every file within the limits is accepted by the whole reading, where the room is three times the input: all its bytes are used, and the image shows it.
pub complete_whole : (f : Lso) (x : List ℕ) (room : ℕ) → File f x → deepest f.body ≤ limit.levels → length x ≤ limit.bytes → 3 * length x ≤ room
    → Accepts x f (length x) (whole_of x room)
complete_whole f x room e d h i =
    let b : Begins x f (length x) = begins e (record { same = sym (append-nil x) }) refl d in
    let c = completes room 2 (length x) b h i (inl refl) (rw (element_out x (length x) (omega arith)) (refl, refl)) in
    rw (sym (whole_used x room (incomplete_of x room) refl c.answer (omega (arith, c.used)))) c

-- the file that the used bytes of an input are, and no further element can be read behind them
pub record MeansUpTo (s : List ℕ) (w : Whole) : Type 0 where
  pub means : Means s w
  pub halts : Halts s w.reading.used

-- What the incomplete reading accepts is a file as far as it was used: those bytes are a file at most as deep as the limit, the image shows it, and no
-- further element can be read behind it.
pub sound_incomplete : (s : List ℕ) (room : ℕ) → Bytes s → (incomplete_of s room).reading.answer ≡ 0 → MeansUpTo s (incomplete_of s room)
sound_incomplete s room bs e =
    let w = ended s room bs e in
    record { means = means w; halts = end_halts s bs _ w.answer w.place w.either w.stopped }

-- Every file within the limits is accepted by the incomplete reading, where no further element can be read behind it and the room is three times the
-- input: all its bytes and no more are used, and the image shows it.
pub complete_incomplete : (f : Lso) (x r : List ℕ) (room : ℕ) → Bytes (x ++ r) → File f x → deepest f.body ≤ limit.levels
    → length (x ++ r) ≤ limit.bytes → 3 * length (x ++ r) ≤ room → Halts (x ++ r) (length x)
    → Accepts (x ++ r) f (length x) (incomplete_of (x ++ r) room)
complete_incomplete f x r room bs c d h i k =
    let b : Begins (x ++ r) f (length x) = begins c (record { same = refl }) refl d in
    let g = halts_end (x ++ r) bs (length x) k in
    completes room g.0 g.1 b h i g.2 g.3

-- Within the limit, and where the room is three times the input, the whole reading accepts exactly the files.
pub exactly : (s : List ℕ) (room : ℕ) → Bytes s → length s ≤ limit.bytes → 3 * length s ≤ room
    → (whole_of s room).reading.answer ≡ 0 ↔ (f : Lso) × File f s × (deepest f.body ≤ limit.levels)
exactly s room bs h i = (
  λ e. let m = sound_whole s room bs e in (m.lso, m.file, m.deep),
  λ v. (complete_whole v.0 s room v.1 v.2 h i).answer,
)

-- No row of bytes is two files.
pub unique : (a b : Lso) (x : List ℕ) → File a x → File b x → a ≡ b
unique a b x f g = same_file f g refl

-- ---- the room

-- In a room of three bytes for each byte of the input, the incomplete reading is not refused for room.
pub room_enough_incomplete : (s : List ℕ) (room : ℕ) → 3 * length s ≤ room → (incomplete_of s room).reading.answer ≢ 4
room_enough_incomplete s room h =
    incomplete_cases s room (λ w. w.reading.answer ≢ 4) (λ i e. omega arith) (λ i a q f n e. (field_named n).other e) (λ i p f q j e. omega (arith, thrice s p f, lacks_over (ever_due s p) 0 room q j))
    (λ i p f j q g e. omega arith) (λ i p f j a q x g e. omega arith)

-- Neither is the whole reading.
pub room_enough_whole : (s : List ℕ) (room : ℕ) → 3 * length s ≤ room → (whole_of s room).reading.answer ≢ 4
unfolding whole_of
room_enough_whole s room h =
    let n = room_enough_incomplete s room h in
    all_cases s (incomplete_of s room) (λ w. w.reading.answer ≢ 4) (λ a. n) (λ a l e. omega arith) (λ a l. n)

-- All records that ever fall due behind a header have room in it.
pub room_enough : (s : List ℕ) (room p : ℕ) → Heads s p → 3 * length s ≤ room → Roomy s room
room_enough s room p h l = record { header = p; heads = h; enough = omega (arith, thrice s p (heads_end h)) }

-- Within the limit and behind a good header, the answer is 4 exactly where all the records that ever fall due, those of the dropped element too, have more
-- bytes than the room.
pub room_exact_incomplete : (s : List ℕ) (room p : ℕ) → length s ≤ limit.bytes → Heads s p
    → (incomplete_of s room).reading.answer ≡ 4 ↔ room < length (bytes (ever_due s p))
room_exact_incomplete s room p h k =
    incomplete_cases s room (λ w. w.reading.answer ≡ 4 ↔ room < length (bytes (ever_due s p))) (λ i. absurd (omega arith))
    (λ i a q f n. absurd (ends_not (header_at s) p a q (heads_end k) f))
    (λ i q f w j.
    let l : Lacks (ever_due s p) 0 room w = rw (one_end (header_at s) f (heads_end k)) at j in
    (λ a. omega (arith, lacks_over (ever_due s p) 0 room w l), λ a. refl))
    (λ i q f j w g. other q f j 5 (λ z. omega arith))
    (λ i q f j a w x g. other q f j 0 (λ z. omega arith))
  where
    other : (q : ℕ) → Ends (header_at s) q → length (bytes (ever_due s q)) ≤ room → (a : ℕ) → a ≢ 4 → a ≡ 4 ↔ room < length (bytes (ever_due s p))
    other q f j a ne = let e = rw (one_end (header_at s) f (heads_end k)) at j in (λ z. absurd (ne z), λ l. absurd (omega arith))

-- And its place is then that of the first record that has no room.
pub room_place_incomplete : (s : List ℕ) (room p q : ℕ) → length s ≤ limit.bytes → Heads s p
    → incomplete_of s room ≡ refused 4 q ↔ Lacks (ever_due s p) 0 room q
room_place_incomplete s room p q h k =
    incomplete_cases s room (λ w. w ≡ refused 4 q ↔ Lacks (ever_due s p) 0 room q) (λ i. absurd (omega arith))
    (λ i a w f n. absurd (ends_not (header_at s) p a w (heads_end k) f))
    (λ i r f w j.
    let l : Lacks (ever_due s p) 0 room w = rw (one_end (header_at s) f (heads_end k)) at j in
    (λ e. rw (ap used_of e) at l, λ l₁. ap (refused 4) (one_lack (ever_due s p) 0 room l l₁)))
    (λ i r f j w g. other r f j (refused 5 w) (λ z. omega arith)) (λ i r f j a w x g. other r f j (accepted _ _) (λ z. omega arith))
  where
    other : (r : ℕ) → Ends (header_at s) r → length (bytes (ever_due s r)) ≤ room → (w : Whole) → w.reading.answer ≢ 4
        → w ≡ refused 4 q ↔ Lacks (ever_due s p) 0 room q
    other r f j w ne =
        let e = rw (one_end (header_at s) f (heads_end k)) at j in
        (λ z. absurd (ne (ap (λ (v : Whole). v.reading.answer) z)), λ l. absurd (omega (arith, lacks_over (ever_due s p) 0 room q l)))

-- The same of the whole reading.
pub room_exact_whole : (s : List ℕ) (room p : ℕ) → length s ≤ limit.bytes → Heads s p
    → (whole_of s room).reading.answer ≡ 4 ↔ room < length (bytes (ever_due s p))
unfolding whole_of
room_exact_whole s room p h e = all_iff s (incomplete_of s room) 4 (λ z. omega arith) (λ z. omega arith) (room_exact_incomplete s room p h e)

-- And of its place.
pub room_place_whole : (s : List ℕ) (room p q : ℕ) → length s ≤ limit.bytes → Heads s p → whole_of s room ≡ refused 4 q ↔ Lacks (ever_due s p) 0 room q
unfolding whole_of
room_place_whole s room p q h e =
    all_refusal s (incomplete_of s room) 4 q (λ z. omega arith) (λ z. omega arith) (room_place_incomplete s room p q h e)

-- Where a room does, every larger room gives the same to the incomplete reading.
pub room_more_incomplete : (s : List ℕ) (room more : ℕ) → room ≤ more → (incomplete_of s room).reading.answer ≢ 4
    → incomplete_of s more ≡ incomplete_of s room
unfolding incomplete_of
room_more_incomplete s = pick_more (leb (length s) limit.bytes) (refused 1 0) (end_more (header_at s) _ λ p. in_room_more (ever_due s p) accepted _)

-- And to the whole reading.
pub room_more_whole : (s : List ℕ) (room more : ℕ) → room ≤ more → (whole_of s room).reading.answer ≢ 4 → whole_of s more ≡ whole_of s room
unfolding whole_of
room_more_whole s = pass_more (all s) (λ w four. rw four) (room_more_incomplete s)

-- ---- the answers

-- The answer of the incomplete reading is one of 0 to 5.
pub answers_incomplete : (s : List ℕ) (room : ℕ) → (incomplete_of s room).reading.answer ≤ 5
answers_incomplete s room =
    incomplete_cases s room (λ w. w.reading.answer ≤ 5) (λ i. omega arith) (λ i a q f n. (field_named n).high) (λ i p f q j. omega arith)
    (λ i p f j q g. omega arith) (λ i p f j a q x g. omega arith)

-- So is that of the whole reading.
pub answers_whole : (s : List ℕ) (room : ℕ) → (whole_of s room).reading.answer ≤ 5
unfolding whole_of
answers_whole s room =
    let n = answers_incomplete s room in
    all_cases s (incomplete_of s room) (λ w. w.reading.answer ≤ 5) (λ a. n) (λ a l. omega arith) (λ a l. n)

-- The answer of the incomplete reading is 1 exactly where the input is over the limit.
pub over_limit_incomplete : (s : List ℕ) (room : ℕ) → (incomplete_of s room).reading.answer ≡ 1 ↔ limit.bytes < length s
over_limit_incomplete s room =
    incomplete_cases s room (λ w. w.reading.answer ≡ 1 ↔ limit.bytes < length s) (λ i. (λ e. i, λ e. refl))
    (λ i a q f n. other i a (λ e. omega (arith, (field_named n).low))) (λ i p f q j. other i 4 (λ e. omega arith)) (λ i p f j q g. other i 5 (λ e. omega arith))
    (λ i p f j a q x g. other i 0 (λ e. omega arith))
  where
    other : length s ≤ limit.bytes → (a : ℕ) → a ≢ 1 → a ≡ 1 ↔ limit.bytes < length s
    other i a ne = (λ e. absurd (ne e), λ l. absurd (omega arith))

-- So is that of the whole reading.
pub over_limit_whole : (s : List ℕ) (room : ℕ) → (whole_of s room).reading.answer ≡ 1 ↔ limit.bytes < length s
unfolding whole_of
over_limit_whole s room = all_iff s (incomplete_of s room) 1 (λ z. omega arith) (λ z. omega arith) (over_limit_incomplete s room)

-- a refusal of the incomplete reading with an answer that a header gives comes from the header alone
header_answer : (a p : ℕ) → Either a → (s : List ℕ) (room : ℕ) → Bytes s → length s ≤ limit.bytes → incomplete_of s room ≡ refused a p ↔ RefusedHeader s a p
header_answer a p x s room bs h = (
  incomplete_cases s room (λ w. w ≡ refused a p → RefusedHeader s a p) (λ i. other 1 0 (λ y. omega arith) (λ y. omega arith))
      (λ i b q f n e. rw (ap answer_of_lem e, ap used_of e) at ((header_refused s b q bs).0 f)) (λ i p f q j. other 4 q (λ y. omega arith) (λ y. omega arith))
      (λ i p f j q g. other 5 q (λ y. omega arith) (λ y. omega arith))
      (λ i p f j b q y g e. absurd (⊎_elim (λ z. omega (arith, ap answer_of_lem e)) (λ z. omega (arith, ap answer_of_lem e)) x)),
  λ r. refused_header s room h a p ((header_refused s a p bs).1 r),
)
  where
    other : (b q : ℕ) → b ≢ 2 → b ≢ 3 → refused b q ≡ refused a p → RefusedHeader s a p
    other b q f g e = absurd (⊎_elim (λ y. f (ap answer_of_lem e ∙ y)) (λ y. g (ap answer_of_lem e ∙ y)) x)

-- Within the limit, the incomplete reading is refused with 2 at a place exactly where the header is, whatever the room.
pub two_incomplete : (s : List ℕ) (room p : ℕ) → Bytes s → length s ≤ limit.bytes → incomplete_of s room ≡ refused 2 p ↔ RefusedHeader s 2 p
two_incomplete s room p = header_answer 2 p (inl refl) s room

-- So is the whole reading: a last element that is cut short is bytes left over, which give 3.
pub two_whole : (s : List ℕ) (room p : ℕ) → Bytes s → length s ≤ limit.bytes → whole_of s room ≡ refused 2 p ↔ RefusedHeader s 2 p
unfolding whole_of
two_whole s room p bs h = all_refusal s (incomplete_of s room) 2 p (λ z. omega arith) (λ z. omega arith) (two_incomplete s room p bs h)

-- Within the limit, the incomplete reading is refused with 3 at a place exactly where the header is, whatever the room.
pub three_incomplete : (s : List ℕ) (room p : ℕ) → Bytes s → length s ≤ limit.bytes → incomplete_of s room ≡ refused 3 p ↔ RefusedHeader s 3 p
three_incomplete s room p = header_answer 3 p (inr refl) s room

-- A refusal of the incomplete reading returns a place for the bytes used, and makes no byte of the image.
pub refused_empty_incomplete : (s : List ℕ) (room : ℕ) → (incomplete_of s room).reading.answer ≢ 0
    → incomplete_of s room ≡ refused (incomplete_of s room).reading.answer (incomplete_of s room).reading.used
refused_empty_incomplete s room =
    incomplete_cases s room (λ w. w.reading.answer ≢ 0 → w ≡ refused w.reading.answer w.reading.used) (λ i ne. refl) (λ i a q f n ne. refl)
    (λ i p f q j ne. refl) (λ i p f j q g ne. refl) (λ i p f j a q x g ne. absurd (ne refl))

-- So does a refusal of the whole reading.
pub refused_empty_whole : (s : List ℕ) (room : ℕ) → (whole_of s room).reading.answer ≢ 0
    → whole_of s room ≡ refused (whole_of s room).reading.answer (whole_of s room).reading.used
unfolding whole_of
refused_empty_whole s room =
    all_cases s (incomplete_of s room) (λ w. w.reading.answer ≢ 0 → w ≡ refused w.reading.answer w.reading.used) (λ a. refused_empty_incomplete s room)
    (λ a l ne. refl) (λ a l ne. absurd (ne a))

-- The bytes used by the incomplete reading, or the place of its refusal, are inside the input.
pub place_inside_incomplete : (s : List ℕ) (room : ℕ) → Bytes s → (incomplete_of s room).reading.used ≤ length s
place_inside_incomplete s room bs =
    incomplete_cases s room (λ w. w.reading.used ≤ length s) (λ i. omega arith) (λ i a q f n. refused_inside ((header_refused s a q bs).0 f) (omega arith))
    (λ i p f q j. (due_lacks (λ r n. n ≤ length s) (ever_due s p) 0 room q (ever_inside s p f) j).1)
    (λ i p f j q g. refused_inside ((element_refused s bs _ 5 q).0 g) (behind s p f).within) (λ i p f j a q x g. (behind s p f).within)

-- So are those of the whole reading.
pub place_inside_whole : (s : List ℕ) (room : ℕ) → Bytes s → (whole_of s room).reading.used ≤ length s
unfolding whole_of
place_inside_whole s room bs =
    let n = place_inside_incomplete s room bs in
    all_cases s (incomplete_of s room) (λ w. w.reading.used ≤ length s) (λ a. n) (λ a l. n) (λ a l. n)
