-- But where a length says that it is not known, the cut is what it was before one could say so.
use Rattle.std.specs.Prelude.{◌+◌, ◌≤◌, ◌≡◌, ◌∷◌, Ok, Err}
use Rattle.wire.proofs.Kit.{ℕ, zero, suc, refl, sym, ◌∙◌, List, [], arith, length, eqb, lt-leb, eqb-true}
use Rattle.wire.specs.Choice.{pick}
use Rattle.wire.specs.Limit as limit
use Rattle.wire.specs.Number.{number}
use Rattle.wire.specs.Field.{bytes_at, u16_at, got, Parsed}
use Rattle.wire.proofs.Laws.{picked}
use Rattle.packet.specs.declared.head.Entry.{Entry}
use Rattle.packet.specs.Head.{unknown, front_of, head_at, Head}
use Rattle.packet.specs.Entry.{Ending, done, halt, reach, Trail, stopped, puts, ◌thence◌, measured_at, entry_at, walk, end_at, messages_from, stops, strict, cut_of}
use Rattle.packet.proofs.Laws.{head_length, front_told, Fronted}
use Rattle.packet_theorems.specs.Before as then
use Rattle.packet_theorems.specs.Before.{Measures}
use Rattle.wire.specs.Answer.{denied}

-- the same of trails
data Walks (s : List ℕ) : Trail → Trail → Type 0 where
  same : {t : Trail} → Walks s t t
  measured : {es : List Entry} {p : ℕ} {t : Trail} → number (bytes_at 4 s p) ≡ unknown → Walks s (record { entries = es; ending = halt 2 p }) t

walks_puts : (s : List ℕ) (es : List Entry) {t u : Trail} → Walks s t u → Walks s (puts es t) (puts es u)
walks_puts s es Walks.same = Walks.same
walks_puts s es (Walks.measured e) = Walks.measured e

walks_thence : (s : List ℕ) {t u : Trail} (k l : ℕ → Trail) → Walks s t u → ((n : ℕ) → Walks s (k n) (l n)) → Walks s (t thence k) (u thence l)
walks_thence s {t} k l Walks.same g = go t.ending
  where
    go : (x : Ending) → Walks s (puts t.entries (reach stopped x k)) (puts t.entries (reach stopped x l))
    go (done n) = walks_puts s t.entries (g n)
    go (halt a p) = Walks.same
walks_thence s k l (Walks.measured e) g = Walks.measured e

walks_strict : (s : List ℕ) {t u : Trail} → Walks s t u → Measures s (strict t) (strict u)
walks_strict s Walks.same = Measures.same
walks_strict s (Walks.measured e) = Measures.measured e

-- what comes behind a field, where that is alike
behind_field : {B : Type 0} (s : List ℕ) (x : Parsed B) (k l : B → ℕ → Trail) → ((b : B) (n : ℕ) → Walks s (k b n) (l b n))
    → Walks s (got stopped x k) (got stopped x l)
behind_field s (Ok x) k l g = g x.0 x.1.at
behind_field s (Err r) k l g = Walks.same

-- and of entries
data Enters (s : List ℕ) : Head → Head → Type 0 where
  same : {x : Head} → Enters s x x
  measured : {p : ℕ} {x : Head} → number (bytes_at 4 s p) ≡ unknown → Enters s (denied 2 p) x

walks_enters : (s : List ℕ) {x y : Head} (k l : Entry → ℕ → Trail) → Enters s x y → ((e : Entry) (n : ℕ) → Walks s (k e n) (l e n))
    → Walks s (got stopped x k) (got stopped y l)
walks_enters s {x} k l Enters.same g = behind_field s x k l g
walks_enters s k l (Enters.measured e) g = Walks.measured e

-- within the limit no value is as long as a length that is not known says
module _ (s : List ℕ) (small : length s ≤ limit.bytes) where
  entry_known : (kind at : ℕ) → Enters s (then.entry_at kind s at) (entry_at kind s at)
  unfolding then.entry_at entry_at
  entry_known kind at = go (head_at kind s at) refl
    where
      go : (x : Head) → head_at kind s at ≡ x
          → Enters s (got denied x λ e v. then.spanned s e v) (got denied x λ e v. pick (eqb e.length unknown) (measured_at s e v) (then.spanned s e v))
      go (Err r) h = Enters.same
      go (Ok x) h =
          picked (λ y. Enters s (then.spanned s x.0 x.1.at) y) (eqb x.0.length unknown) _ _
          (λ b.
          let u = eqb-true x.0.length unknown b in
          rw (lt-leb (x.1.at + x.0.length) (length s) (omega arith)) (Enters.measured (sym (head_length s at kind h) ∙ u)))
          (λ b. Enters.same)

  walks_known : (kind n at : ℕ) → Walks s (then.walk kind s n at) (walk kind s n at)
  unfolding then.walk walk
  walks_known kind zero at = Walks.same
  walks_known kind (suc n) at =
      walks_enters s (λ e q. puts (e ∷ []) (then.walk kind s n q)) (λ e q. puts (e ∷ []) (walk kind s n q)) (entry_known kind at) λ e q.
      walks_puts s (e ∷ []) (walks_known kind n q)

-- What was found before is found now, and what was refused is refused alike, but for what a length that says that it is not known refused.
pub known_as_before : (s : List ℕ) → Measures s (then.cut_of s) (cut_of s)
unfolding then.cut_of cut_of
known_as_before s = go (front_of s) (front_told s)
  where
    go : (x : Parsed ℕ) → Fronted s x → Measures s (got stops x λ h q. strict (then.rest s h q)) (got stops x λ h q. strict (walk 0x31 s h q thence messages_from s))
    go (Err r) t = Measures.same
    go (Ok x) t =
        walks_strict s
        (walks_thence s _ (messages_from s) (walks_known s t.0 0x31 x.0 x.1.at) λ e.
        behind_field s (u16_at s e) _ _ λ m f.
        walks_thence s (end_at s) (end_at s) (walks_known s t.0 0x32 m f) λ z. Walks.same)
