-- What leads to a field: a value that is too deep leads to the marker of one too many, and bytes behind a field that is there change nothing.
use Rattle.std.specs.Prelude.{◌+◌, ◌≤◌, ◌<◌, ◌≡◌, ◌≢◌, ◌∷◌, ◌++◌}
use Rattle.wire.proofs.Kit.{ℕ, zero, suc, refl, sym, ap, ◌∙◌, List, [], append-nil, arith, length, drop, length-append}
use Rattle.wire.proofs.Kit.{eqb-false}
use Rattle.wire.proofs.Stands.{Here, cut, skip, byte_at}
use Rattle.amf0.specs.Standard.{Sort, Tree, depth, Encodes}
use Rattle.amf0_theorems.specs.Refusal.{Field, Bars, Refuses, Leads}
use Rattle.amf0_theorems.proofs.Refused.{refuse, onward, reworded}
use Rattle.image.proofs.Settle.{either}
use Rattle.amf0_theorems.proofs.Complete.{begun, held}
use Rattle.amf0_theorems.proofs.Telling.{reads}
use Rattle.amf0_theorems.proofs.Stopped.{RefusedPart}
use Rattle.amf0_theorems.proofs.Refusing.{value_bars}

-- ---- a value of the standard's that is too deep

-- a value begins with a marker that marks one
begins_open : {t : Tree Sort.value} {x : List ℕ} (e : Encodes Sort.value t x) → Bars (begun e).first → ⊥
begins_open {t} {x} e b =
    let m = begun e in
    let h : Here x 0 x [] = record { same = sym (append-nil x) } in
    let g : Here x 0 (m.first ∷ []) m.rest = record { same = m.same } in
    rw (value_bars (depth t) x 0 b (byte_at m.first g)) at (reads (depth t) x [] 0 e h (omega arith)).ends

-- it leads to the marker of a value where no level is left
pub deep_refused : {k : Sort} {t : Tree k} {x : List ℕ} (e : Encodes k t x) (s r : List ℕ) (at left : ℕ) → Here s at x r → left < depth t
    → (p : ℕ) × RefusedPart left k s at 5 p
deep_refused (Encodes.node {x} {y} row e) s r at zero h d =
    let v = Encodes.node row e in
    (at, refuse {x = []} (record { same = h.same ∙ ap (λ w. w ++ r) (begun v).same }) (omega arith) Leads.marker (Refuses.too_deep (begins_open v)))
deep_refused (Encodes.node {x} {y} row e) s r at (suc left) h d =
    let t = deep_refused e s r (at + length x) left (skip x y h) (omega arith) in
    let z : drop (at + length x) s ≡ y ++ r = (skip x y h).same in
    (t.0, onward (cut x y h) refl (λ q w f c g. Leads.inside row (rw (← c, z) (omega (arith, held e, length-append y r))) g) t.1)
deep_refused Encodes.end s r at left h d = absurd (omega arith)
deep_refused (Encodes.departure_named_end u l) s r at left h d = absurd (omega arith)
deep_refused (Encodes.property {k} {x} {v} {y} {z} u e g) s r at left h d =
    let j : Here s (at + length x) (y ++ z) r = skip x (y ++ z) h in
    let m = begun e in
    either (depth v) left
    (λ i.
    let t = deep_refused g s r (at + length x + length y) left (skip y z j) (omega arith) in
    (t.0, onward (cut x (y ++ z) h) refl (λ q w f c a. a) (onward (cut y z j) refl (λ q w f c a. Leads.next_property u e i a) t.1)))
    (λ i.
    let t = deep_refused e s (z ++ r) (at + length x) left (cut y z j) i in (
      t.0,
      onward (cut x (y ++ z) h) refl
          (λ q w f c a. Leads.property u (λ n b. eqb-false m.first 9 m.other (cc ((cut y z j).same, m.same))) a) t.1,
    ))
deep_refused Encodes.nil s r at left h d = absurd (omega arith)
deep_refused (Encodes.cons {v} {x} {y} e g) s r at left h d =
    either (depth v) left
    (λ i.
    let t = deep_refused g s r (at + length x) left (skip x y h) (omega arith) in
    (t.0, onward (cut x y h) refl (λ q w f c a. Leads.next e i a) t.1))
    (λ i.
    let t = deep_refused e s (y ++ r) at left (cut x y h) i in
    (t.0, reworded (λ q w f. Leads.first) t.1))

-- ---- bytes behind the input

-- what does not begin with m does not with more behind it
begins_other : (y r q : List ℕ) (m : ℕ) → 1 ≤ length r → ((z : List ℕ) → y ++ r ≢ m ∷ z) → (z : List ℕ) → y ++ (r ++ q) ≢ m ∷ z
begins_other [] [] q m h other z e = absurd (omega arith)
begins_other [] (b ∷ r) q m h other z e = let same : b ≡ m = cc in other r (ap (λ c. c ∷ r) same)
begins_other (b ∷ y) r q m h other z e = let same : b ≡ m = cc in other (y ++ r) (ap (λ c. c ∷ (y ++ r)) same)

-- what leads to a field that is there leads to it with more behind it
pub longer : {r x : List ℕ} {left : ℕ} {k : Sort} {f : Field} (q : List ℕ) → 1 ≤ length r → Leads r left k x f → Leads (r ++ q) left k x f
longer q h Leads.marker = Leads.marker
longer q h (Leads.own o) = Leads.own o
longer {r} q h (Leads.inside {y} row c d) =
    Leads.inside {y = y} row (omega (arith, length-append y r, length-append r q, length-append y (r ++ q))) (longer q h d)
longer q h (Leads.name t) = Leads.name t
longer {r} q h (Leads.property {y} u other d) = Leads.property u (begins_other y r q 9 h other) (longer q h d)
longer q h (Leads.next_property u e g d) = Leads.next_property u e g (longer q h d)
longer q h (Leads.first d) = Leads.first (longer q h d)
longer q h (Leads.next e g d) = Leads.next e g (longer q h d)
