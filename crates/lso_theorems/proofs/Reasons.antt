-- Why the two readings of a file are refused or accepted, by the grammar of refusals.
use Rattle.std.specs.Prelude.{◌≤◌, ◌<◌, ◌≡◌, ◌↔◌, ◌⊎◌}
use Rattle.wire.proofs.Kit.{ℕ, refl, sym, ap, ◌∙◌, inl, inr, ⊎_elim, List, arith, length, take}
use Rattle.wire.specs.Number.{Bytes}
use Rattle.amf0_theorems.proofs.More.{all_refusal}
use Rattle.wire.specs.Limit as limit
use Rattle.image.specs.Due.{Ends, Stops}
use Rattle.image.specs.Whole.{bytes, accepted, refused}
use Rattle.image.proofs.Settle.{all_cases, answer_of_lem, used_of}
use Rattle.lso.specs.File.{Lso}
use Rattle.lso.specs.Reading.{header_at, element_at, body_at, ever_due, incomplete_of, whole_of}
use Rattle.lso.proofs.Outcome.{incomplete_cases}
use Rattle.lso_theorems.specs.Refusal.{RefusedHeader, Roomy, Reaches, TooDeep, Comes, ComesWhole}
use Rattle.lso_theorems.proofs.Sound.{end_heads, file_sound}
use Rattle.lso_theorems.proofs.Stopping.{heads_end, shown, ended, Accepts, accepts_file, refused_deep}
use Rattle.lso_theorems.proofs.Refusals.{header_refused, element_refused, halts_end, end_halts}
use Rattle.lso_theorems.proofs.Theorems.{unique, three_incomplete, refused_empty_incomplete, sound_incomplete}
use Rattle.lso_theorems.proofs.WriteOutcome.{made}

-- room for all that falls due behind a header, and an element behind the elements that stand that is too deep
module _ (s : List ℕ) (room : ℕ) (bs : Bytes s) (p : ℕ) (f : Ends (header_at s) p) (j : length (bytes (ever_due s p)) ≤ room) where
  roomy : Roomy s room
  roomy = record { header = p; heads = end_heads s bs p f; enough = j }

  too_deep : (q : ℕ) → Stops (element_at s (body_at s (length s) p).at) 5 q → TooDeep s room q
  too_deep q g =
      record {
        lso = (file_sound s bs p f).0;
        used = _;
        roomy = roomy;
        begins = (file_sound s bs p f).1;
        refused = (element_refused s bs _ 5 q).0 g;
      }

-- what is accepted, put together from its parts
accepted_is : (s : List ℕ) (room : ℕ) → (incomplete_of s room).reading.answer ≡ 0
    → incomplete_of s room ≡ accepted (incomplete_of s room).reading.used (incomplete_of s room).bytes
accepted_is s room =
    incomplete_cases s room (λ w. w.reading.answer ≡ 0 → w ≡ accepted w.reading.used w.bytes) (λ i e. absurd (omega arith))
    (λ i a q f n e. absurd (⊎_elim (λ y. omega arith) (λ y. omega arith) n)) (λ i p f q j e. absurd (omega arith)) (λ i p f j q g e. absurd (omega arith))
    (λ i p f j a q x g e. refl)

-- The incomplete reading is refused for the limit, its header, the room or a value too deep, and is else accepted up to where no further element can be
-- read.
pub reasons_incomplete : (s : List ℕ) (room : ℕ) → Bytes s → Comes s room (incomplete_of s room)
reasons_incomplete s room bs =
    incomplete_cases s room (Comes s room) Comes.over_limit (λ i a q f n. Comes.no_header i ((header_refused s a q bs).0 f))
    (λ i p f q j. Comes.no_room i (end_heads s bs p f) j)
    (λ i p f j q g. Comes.too_deep i (too_deep s room bs p f j q g))
    (λ i p f j a q x g.
    let b = (file_sound s bs p f).1 in
    Comes.read i (record { roomy = roomy s room bs p f j; begins = b; halts = end_halts s bs _ a q x g }) (shown b a q g p f i))

-- The whole reading is refused as the incomplete one, or with 3 for the bytes behind what that one uses.
pub reasons_whole : (s : List ℕ) (room : ℕ) → Bytes s → ComesWhole s room (whole_of s room)
unfolding whole_of
reasons_whole s room bs =
    let c = reasons_incomplete s room bs in
    all_cases s (incomplete_of s room) (ComesWhole s room)
    (λ n. let e = refused_empty_incomplete s room n in rw e (ComesWhole.not_read {a = (incomplete_of s room).reading.answer} {place = (incomplete_of s room).reading.used} (omega arith) (rw e at c)))
    (λ a l. ComesWhole.left_over (rw (accepted_is s room a) at c) l)
    (λ a l.
    let u = (sound_incomplete s room bs a).means.used in
    rw (accepted_is s room a) (ComesWhole.read (rw (accepted_is s room a) at c) (omega arith)))

-- A file that is reached is accepted by the incomplete reading: its bytes and no more are used, and the image shows it.
pub reached : (s : List ℕ) (room : ℕ) (f : Lso) (n : ℕ) → Bytes s → length s ≤ limit.bytes → Reaches s room f n → Accepts s f n (incomplete_of s room)
reached s room f n bs h r =
    let g = halts_end s bs n r.halts in
    accepts_file s room h r.roomy.header r.begins (heads_end r.roomy.heads) r.roomy.enough g.0 g.1 g.2 g.3

-- What the incomplete reading accepts is reached.
pub reaches : (s : List ℕ) (room : ℕ) → Bytes s → (incomplete_of s room).reading.answer ≡ 0
    → (f : Lso) × Reaches s room f (incomplete_of s room).reading.used
reaches s room bs e =
    let w = ended s room bs e in
    let m = made s room e in (
      w.lso,
      record {
        roomy = record { header = m.header; heads = end_heads s bs m.header m.ended; enough = m.due };
        begins = w.begins;
        halts = end_halts s bs _ w.answer w.place w.either w.stopped;
      },
    )

-- Within the limit, the incomplete reading is accepted exactly where a file is reached.
pub exactly_incomplete : (s : List ℕ) (room : ℕ) → Bytes s → length s ≤ limit.bytes
    → (incomplete_of s room).reading.answer ≡ 0 ↔ (f : Lso) × (n : ℕ) × Reaches s room f n
exactly_incomplete s room bs h = (
  λ e. let r = reaches s room bs e in (r.0, (incomplete_of s room).reading.used, r.1),
  λ t. (reached s room t.0 t.1 bs h t.2).answer,
)

-- No two files are reached.
pub one_reached : (s : List ℕ) (room : ℕ) (f g : Lso) (m n : ℕ) → Bytes s → length s ≤ limit.bytes → Reaches s room f m → Reaches s room g n
    → (f ≡ g) × (m ≡ n)
one_reached s room f g m n bs h a b =
    let same : m ≡ n = sym (reached s room f m bs h a).used ∙ (reached s room g n bs h b).used in
    (unique f g (take n s) (rw same at a.begins.file) b.begins.file, same)

-- Within the limit, the whole reading is refused with 3 at a place exactly where the header is, or where the incomplete reading is accepted up to that place and
-- bytes remain behind the file.
pub three_whole : (s : List ℕ) (room p : ℕ) → Bytes s → length s ≤ limit.bytes
    → whole_of s room ≡ refused 3 p ↔ RefusedHeader s 3 p ⊎ ((f : Lso) × Reaches s room f p × (p < length s))
unfolding whole_of
three_whole s room p bs h =
    let x = three_incomplete s room p bs h in
    let Q : Type 0 = (f : Lso) × Reaches s room f p × (p < length s) in
    let accepts : Q → (incomplete_of s room).reading.answer ≡ 0 = λ t. (reached s room t.0 p bs h t.1).answer in
    let used : Q → (incomplete_of s room).reading.used ≡ p = λ t. (reached s room t.0 p bs h t.1).used in
    all_cases s (incomplete_of s room) (λ w. w ≡ refused 3 p ↔ RefusedHeader s 3 p ⊎ Q)
    (λ n. (λ e. inl (x.0 e), ⊎_elim x.1 (λ t. absurd (n (accepts t)))))
    (λ a l. (
      λ e. let r = reaches s room bs a in let u = ap used_of e in inr (r.0, rw u at r.1, omega (arith, u)),
      ⊎_elim (λ r. absurd (omega (arith, a, ap answer_of_lem (x.1 r)))) (λ t. ap (refused 3) (used t)),
    ))
    (λ a l. (λ e. absurd (omega (arith, a, ap answer_of_lem e)), ⊎_elim (λ r. absurd (omega (arith, a, ap answer_of_lem (x.1 r)))) (λ t. absurd (omega (arith, used t, t.2)))))

-- Within the limit, the incomplete reading is refused with 5 at a place exactly where, given room, the element behind the elements that stand is.
pub five_incomplete : (s : List ℕ) (room p : ℕ) → Bytes s → length s ≤ limit.bytes → incomplete_of s room ≡ refused 5 p ↔ TooDeep s room p
five_incomplete s room p bs h = (
  incomplete_cases s room (λ w. w ≡ refused 5 p → TooDeep s room p) (λ i e. absurd (omega (arith, ap answer_of_lem e)))
      (λ i a q f n e. absurd (⊎_elim (λ y. omega (arith, ap answer_of_lem e)) (λ y. omega (arith, ap answer_of_lem e)) n)) (λ i o f q j e. absurd (omega (arith, ap answer_of_lem e)))
      (λ i o f j q g e. rw (ap used_of e) at (too_deep s room bs o f j q g)) (λ i o f j a q x g e. absurd (omega (arith, ap answer_of_lem e))),
  λ t.
      refused_deep s room h t.roomy.header t.begins (heads_end t.roomy.heads) t.roomy.enough p
      ((element_refused s bs t.used 5 p).1 t.refused),
)

-- So is the whole reading.
pub five_whole : (s : List ℕ) (room p : ℕ) → Bytes s → length s ≤ limit.bytes → whole_of s room ≡ refused 5 p ↔ TooDeep s room p
unfolding whole_of
five_whole s room p bs h = all_refusal s (incomplete_of s room) 5 p (λ z. omega arith) (λ z. omega arith) (five_incomplete s room p bs h)
