-- A field, a header and an element are refused exactly as the grammar of refusals says, and are else read.
use Rattle.std.specs.Prelude.{◌+◌, ◌≤◌, ◌<◌, ◌≡◌, ◌∷◌, ◌↔◌, ◌++◌, Ok, Result}
use Rattle.wire.proofs.Kit.{ℕ, zero, suc, refl, sym, ap, ◌∙◌, List, [], arith, length, drop, length-drop, length-append, replicate}
use Rattle.wire.proofs.Kit.{leb, lt-leb, le-leb, leb-true, leb-false, inl, inr, length-replicate}
use Rattle.wire.specs.Number.{Bytes, digits}
use Rattle.wire.specs.Field.{to, bytes_at, u32_at, equal, tag_at, got, past_tag}
use Rattle.wire.proofs.Laws.{picked, length_digits, equal_same, equal_means, false_true}
use Rattle.wire.proofs.Stands.{Here, join, cut, skip, stood, Stood, number_stood, tag_at_lem, go32, after, inside, u32_at_lem, text_at_lem}
use Rattle.lso.specs.Reading.{zeros_at, header_at, closing, element_at}
use Rattle.amf0_theorems.specs.Refusal.{Refuses, Field, InText, RefusedValue}
use Rattle.amf0_theorems.specs.Refusal.Field.{some, fixed}
use Rattle.wire.specs.Limit as limit
use Rattle.image.specs.Due.{Due, end, stop, Stops}
use Rattle.image.proofs.Settle.{stops_behind}
use Rattle.amf0.specs.Reading.{top_value}
use Rattle.amf0.specs.Standard.{Sort, UTF-8}
use Rattle.amf0.specs.Standard.UTF-8.{short}
use Rattle.amf0_theorems.proofs.Complete.{past}
use Rattle.amf0_theorems.proofs.Telling.{reads}
use Rattle.amf0_theorems.proofs.Sound as amf0
use Rattle.amf0_theorems.proofs.Sound.{keyed}
use Rattle.amf0_theorems.proofs.Refused.{Told, told_map, told_bind, told_stops, stops_first, refuse, onward, reworded, text_case, text_stops}
use Rattle.amf0_theorems.proofs.Stopped.{value_told}
use Rattle.amf0_theorems.proofs.Refusals.{value_refused}
use Rattle.lso.specs.File.{version, signature}
use Rattle.lso.proofs.Stands.{Either}
use Rattle.lso.proofs.Laws.{element_cut, element_key}
use Rattle.lso_theorems.proofs.Complete.{header_past}
use Rattle.lso_theorems.specs.Refusal.{LeadsHeader, LeadsElement, RefusedHeader, RefusedElement, Halts}
use Rattle.wire.specs.Answer.{denied, Verdict}
use Rattle.wire.specs.declared.cursor.Cursor.{Cursor}

-- ---- fixed bytes

module _ (s : List ℕ) (at : ℕ) (x : List ℕ) (some_byte : 1 ≤ length x) where
  -- they stand there, or the grammar refuses them
  pub case_tag : {A : Type 0} (P : A → Type 0) (halt : ℕ → ℕ → A) (k : ℕ → A)
      → (Here s at x (drop (at + length x) s) → at + length x ≤ length s → P (k (at + length x)))
      → ((a : ℕ) → Refuses (fixed x) (drop at s) a → P (halt a at)) → P (past_tag halt (tag_at x s at) k)
  unfolding tag_at
  case_tag P halt k is halts =
      let Q : Result Cursor Verdict → Type 0 = λ t. P (past_tag halt t k) in
      let l = length-drop at s in
      picked Q (leb (at + length x) (length s)) _ _
      (λ h.
      let m = leb-true (at + length x) (length s) h in
      picked Q (equal (bytes_at (length x) s at) x) _ _ (λ u. is (rw (equal_means (bytes_at (length x) s at) x u) at (stood (length x) s at)) m)
      (λ u. halts 3 (Refuses.other_bytes {x = x} {r = drop at s} (omega arith) λ same. false_true (sym u ∙ (ap (λ y. equal y x) same ∙ equal_same x)))))
      (λ h. halts 2 (Refuses.short {f = fixed x} {r = drop at s} (omega (arith, leb-false (at + length x) (length s) h))))

  -- and what the grammar refuses is refused
  pub tag_stops : {a : ℕ} → Refuses (fixed x) (drop at s) a → tag_at x s at ≡ denied a at
  unfolding tag_at
  tag_stops (Refuses.short l) = rw (lt-leb (at + length x) (length s) (omega (arith, length-drop at s)))
  tag_stops (Refuses.other_bytes l ne) =
      rw (le-leb (at + length x) (length s) (omega (arith, length-drop at s)))
      (picked (λ (t : Result Cursor Verdict). t ≡ denied 3 at) (equal (bytes_at (length x) s at) x) _ _ (λ u. absurd (ne (equal_means _ _ u))) (λ u. refl))

-- ---- a number of four bytes

module _ (s : List ℕ) (at : ℕ) where
  -- a number that the grammar refuses is refused
  pub u32_stops : {a : ℕ} → Refuses (some 4) (drop at s) a → u32_at s at ≡ denied a at
  unfolding u32_at
  u32_stops (Refuses.short l) = rw (lt-leb (at + 4) (length s) (omega (arith, length-drop at s)))

  -- it stands there, or the grammar refuses it
  pub case32 : {A : Type 0} (P : A → Type 0) (halt : ℕ → ℕ → A) (k : ℕ → ℕ → A) → Bytes s
      → ((n : ℕ) → Stood 4 s at n → at + 4 ≤ length s → P (k n (at + 4))) → ((a : ℕ) → Refuses (some 4) (drop at s) a → P (halt a at))
      → P (got halt (u32_at s at) k)
  case32 P halt k bs is halts =
      go32 P halt s at k (λ h. is _ (number_stood s bs at 4 h) h)
      (λ h. halts 2 (Refuses.short {f = some 4} {r = drop at s} (omega (arith, length-drop at s))))

-- ---- a row of zeros

-- the refusal of one of n zeros
pub record Broken (s : List ℕ) (at n a p : ℕ) : Type 0 where
  pub before : ℕ
  pub fewer : before < n
  pub here : Here s at (replicate before 0) (drop p s)
  pub place : p ≡ at + before
  pub refuses : Refuses (fixed (0 ∷ [])) (drop p s) a

-- zeros of which the grammar refuses one are refused
pub zeros_stop : {s r : List ℕ} {a : ℕ} (n at k p : ℕ) → k < n → p ≡ at + k → Here s at (replicate k 0) r → Refuses (fixed (0 ∷ [])) r a
    → zeros_at n s at ≡ denied a p
unfolding zeros_at
zeros_stop zero at k p h e g f = absurd (omega arith)
zeros_stop {s} {r} {a} (suc n) at zero p h e g f =
    let same : p ≡ at = omega arith in
    rw (tag_stops s at (0 ∷ []) (omega arith) {a = a} (rw g.same f), same)
zeros_stop {s} {r} (suc n) at (suc k) p h e g f =
    let z = cut (0 ∷ []) (replicate k 0) g in
    rw (tag_at_lem (0 ∷ []) z (omega arith)) (zeros_stop n (at + 1) k p (omega arith) (omega arith) (skip (0 ∷ []) (replicate k 0) g) f)

module _ (Q : Result Cursor Verdict → Type 0) (s : List ℕ) where
  zeros_case : (n at : ℕ) → at ≤ length s → ((q : ℕ) → q ≡ at + n → Here s at (replicate n 0) (drop q s) → q ≤ length s → Q (Ok (to q)))
      → ((a p : ℕ) → Broken s at n a p → Q (denied a p)) → Q (zeros_at n s at)
  unfolding zeros_at
  zeros_case zero at l is halts = is at (omega arith) (record { same = refl }) l
  zeros_case (suc n) at l is halts =
      case_tag s at (0 ∷ []) (omega arith) Q denied (λ p. zeros_at n s p)
      (λ h i. zeros_case n (at + 1) i (λ q e g j. is q (omega arith) (join h refl g) j)
      (λ a p b.
      halts a p
      (record {
        before = suc b.before;
        fewer = omega (arith, b.fewer);
        here = join h refl b.here;
        place = omega (arith, b.place);
        refuses = b.refuses;
      })))
      (λ a f. halts a at (record { before = 0; fewer = omega arith; here = record { same = refl }; place = omega arith; refuses = f }))

-- they stand there, or the grammar refuses one of them
pub case_zeros : {A : Type 0} (P : A → Type 0) (halt : ℕ → ℕ → A) (s : List ℕ) (n at : ℕ) (k : ℕ → A) → at ≤ length s
    → ((q : ℕ) → q ≡ at + n → Here s at (replicate n 0) (drop q s) → q ≤ length s → P (k q))
    → ((a p : ℕ) → Broken s at n a p → P (halt a p)) → P (past_tag halt (zeros_at n s at) k)
case_zeros P halt s n at k = zeros_case (λ t. P (past_tag halt t k)) s n at

-- what is left behind a row
left : {s x r : List ℕ} {f : Field} {at w a : ℕ} → Here s at x r → length x ≡ w → Refuses f r a → Refuses f (drop (at + w) s) a
left h l f = rw (after h l) f

-- ---- the header

-- what the definition refuses the grammar refuses
header_told : (s : List ℕ) → Bytes s → Told (RefusedHeader s) (header_at s)
unfolding header_at
header_told s bs =
    let P : Due → Type 0 = Told (RefusedHeader s) in
    case_tag s 0 version (omega arith) P stop _
    (λ v i. case32 s 2 P stop _ bs
    (λ n st j. case_tag s 6 signature (omega arith) P stop _
    (λ g k. text_case P stop s bs 16 2 (omega arith) _
    (λ t r h b u. case_zeros P stop s 4 (18 + length t) _ (omega (arith, inside h (omega arith))) (λ q f w o. tt)
    (λ c q z.
    refuse (join v refl (join st.here (length_digits 4 n) (join g refl (keyed t h z.here))))
    (omega (arith, z.place, length-append t (replicate z.before 0), length-replicate {A = ℕ} z.before 0))
    (LeadsHeader.zero st.bound (short t b u) z.fewer) z.refuses))
    (λ c q. onward (join v refl (join st.here (length_digits 4 n) g)) (omega arith) λ r x f e. LeadsHeader.name st.bound))
    (λ c f. refuse (join v refl st.here) (omega arith) (LeadsHeader.signature st.bound) f))
    (λ c f. refuse v (omega arith) LeadsHeader.stored f))
    (λ c f. refuse (record { same = refl }) (omega arith) LeadsHeader.version f)

-- and back
header_stops : {s x r : List ℕ} {f : Field} {a p : ℕ} → LeadsHeader x f → Here s 0 x r → p ≡ 0 + length x → Refuses f r a → Stops (header_at s) a p
unfolding header_at
header_stops {s} LeadsHeader.version h e f = rw (tag_stops s 0 version (omega arith) (left h refl f)) (refl, e)
header_stops {s} LeadsHeader.stored h e f = rw (tag_at_lem version h (omega arith), u32_stops s 2 (left h refl f)) (refl, e)
header_stops {s} (LeadsHeader.signature {n} b) h e f =
    let g = skip version (digits 4 n) h in
    rw (
      tag_at_lem version (cut version (digits 4 n) h) (omega arith),
      u32_at_lem n g b,
      tag_stops s 6 signature (omega arith) (left g refl f),
    ) (refl, e)
header_stops {s} (LeadsHeader.name {n} {x} b t) h e f =
    let k = header_past n x b h in
    rw (k.0, text_stops (omega arith) t f k.1) (refl, omega arith)
header_stops {s} {p} (LeadsHeader.zero {n} {k} b (short t l u) c) h e f =
    let x : List ℕ = digits 2 (length t) ++ t in
    let z : List ℕ = replicate k 0 in
    let g = header_past n (x ++ z) b h in
    rw (
      g.0,
      text_at_lem 2 t (cut x z g.1) l u (omega arith),
      zeros_stop 4 (18 + length t) k p c (omega (arith, length-append t z, length-replicate {A = ℕ} k 0)) (past t z g.1) f,
    ) (refl, refl)

-- The header is refused exactly as its fields say.
pub header_refused : (s : List ℕ) (a p : ℕ) → Bytes s → Stops (header_at s) a p ↔ RefusedHeader s a p
header_refused s a p bs = (told_stops (RefusedHeader s) (header_at s) a p (header_told s bs), λ r. header_stops r.leads (record { same = r.stands }) r.here r.refuses)

-- a field of fixed bytes, or of a text, is not whole or not right
fixed_either : {x r : List ℕ} {a : ℕ} → Refuses (fixed x) r a → Either a
fixed_either (Refuses.short l) = inl refl
fixed_either (Refuses.other_bytes l e) = inr refl

text_either : {x r : List ℕ} {f : Field} {a : ℕ} → InText 2 x f → Refuses f r a → Either a
text_either InText.size (Refuses.short l) = inl refl
text_either (InText.letters b) (Refuses.short l) = inl refl
text_either (InText.letters b) (Refuses.not_utf8 l u) = inr refl

leads_either : {x r : List ℕ} {f : Field} {a : ℕ} → LeadsHeader x f → Refuses f r a → Either a
leads_either LeadsHeader.version f = fixed_either f
leads_either LeadsHeader.stored (Refuses.short l) = inl refl
leads_either (LeadsHeader.signature b) f = fixed_either f
leads_either (LeadsHeader.name b t) f = text_either t f
leads_either (LeadsHeader.zero b t c) f = fixed_either f

-- The header is refused with no other answer than 2 and 3.
pub header_either : {s : List ℕ} {a p : ℕ} → RefusedHeader s a p → Either a
header_either r = leads_either r.leads r.refuses

-- ---- an element

-- what the definition refuses the grammar refuses
element_told : (s : List ℕ) → Bytes s → (at : ℕ) → Told (RefusedElement s at) (element_at s at)
unfolding element_at
element_told s bs at =
    text_case (Told (RefusedElement s at)) stop s bs at 2 (omega arith) _
    (λ t r h b u.
    let q : ℕ = at + 2 + length t in
    let m : q ≤ length s = omega (arith, inside h (omega arith)) in
    told_bind (RefusedElement s at) (top_value s q) (closing s)
    (told_map (top_value s q) (λ a p. onward h (omega arith) λ r x f e. LeadsElement.value (short t b u)) (value_told limit.levels s q bs m))
    (λ n f. closed t r h (short t b u) (amf0.sound limit.levels s q n bs f)))
    (λ a p. reworded λ r x f. LeadsElement.key)
  where
    closed : (t r : List ℕ) → Here s at (digits 2 (length t) ++ t) r → UTF-8 t (digits 2 (length t) ++ t) → {n : ℕ}
        → amf0.Found Sort.value limit.levels s (at + 2 + length t) n → Told (RefusedElement s at) (closing s n)
    closed t r h k {n} v =
        case_tag s n (0 ∷ []) (omega arith) (Told (RefusedElement s at)) stop end (λ g j. tt)
        (λ a f. refuse (keyed t h v.here) (omega (arith, v.next, length-append t v.row)) (LeadsElement.zero k v.encodes v.deep)
        (rw (v.next, after v.here refl) at f))

module _ (s : List ℕ) (bs : Bytes s) (at a p : ℕ) where
  -- and back
  element_stops : {x r : List ℕ} {f : Field} → LeadsElement r x f → Here s at x r → p ≡ at + length x → Refuses f r a → Stops (element_at s at) a p
  element_stops (LeadsElement.key t) h e f = rw (element_cut s at (text_stops (omega arith) t f h)) (refl, e)
  element_stops {r} {f = g} (LeadsElement.value {y} (short k b u) d) h e f =
      let q : ℕ = at + 2 + length k in
      let m : q ≤ length s = omega (arith, inside h (omega arith), length-append k y) in
      let v : RefusedValue limit.levels s q a p =
      record { before = y; rest = r; field = g; stands = (past k y h).same; here = omega (arith, length-append k y); leads = d; refuses = f } in
      rw (element_key s at (text_at_lem 2 k (cut (digits 2 (length k) ++ k) y h) b u (omega arith)))
      (stops_first (top_value s q) (closing s) a p ((value_refused limit.levels s q a p bs m).1 v))
  element_stops {r} (LeadsElement.zero {y} (short k b u) v d) h e f =
      let q : ℕ = at + 2 + length k in
      let g = past k y h in
      rw (element_key s at (text_at_lem 2 k (cut (digits 2 (length k) ++ k) y h) b u (omega arith)))
      (stops_behind (top_value s q) (closing s) (q + length y) a p (reads limit.levels s r q v g d).ends
      (rw (tag_stops s (q + length y) (0 ∷ []) (omega arith) {a = a} (left g refl f)) (refl, omega (arith, length-append k y))))

  -- An element is refused exactly as its fields say.
  pub element_refused : Stops (element_at s at) a p ↔ RefusedElement s at a p
  element_refused = (told_stops (RefusedElement s at) (element_at s at) a p (element_told s bs at), λ r. element_stops r.leads (record { same = r.stands }) r.here r.refuses)

-- ---- an element behind which the body ends

module _ (s : List ℕ) (bs : Bytes s) (n : ℕ) where
  -- no further element can be read where the definition stops with 2 or 3
  pub halts_end : Halts s n → (a : ℕ) × (q : ℕ) × Either a × Stops (element_at s n) a q
  halts_end (Halts.short {place} r) = (2, place, inl refl, (element_refused s bs n 2 place).1 r)
  halts_end (Halts.wrong {place} r) = (3, place, inr refl, (element_refused s bs n 3 place).1 r)

  pub end_halts : (a q : ℕ) → Either a → Stops (element_at s n) a q → Halts s n
  end_halts a q (inl x) e = Halts.short (rw x at ((element_refused s bs n a q).0 e))
  end_halts a q (inr x) e = Halts.wrong (rw x at ((element_refused s bs n a q).0 e))
