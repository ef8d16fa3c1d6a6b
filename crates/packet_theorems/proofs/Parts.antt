-- A part of an input that is gone over just as a grammar has it: where it stands, where it ends, and which field refuses it; and the fields that a packet is
-- made of.
use Rattle.std.specs.Prelude.{◌+◌, ◌^◌, ◌≤◌, ◌<◌, ◌≡◌, ◌++◌}
use Rattle.wire.proofs.Kit.{ℕ, refl, sym, ap, ◌∙◌, List, [], true, arith, add_assoc, add-zero, length, drop, length-append}
use Rattle.wire.proofs.Kit.{length-drop, leb, le-leb, lt-leb, leb-true, leb-false}
use Rattle.wire.specs.Choice.{pick}
use Rattle.wire.specs.Number.{digits, number, Bytes}
use Rattle.wire.specs.Utf8.{utf8}
use Rattle.wire.specs.Field.{bytes_at, text_at, got_text}
use Rattle.wire.proofs.Laws.{picked, length_digits, number_digits}
use Rattle.wire.proofs.Stands.{Here, cut, skip, there, inside, join, number_stood, text_at_lem}
use Rattle.amf0.specs.Standard.{UTF-8}
use Rattle.amf0.specs.Standard.UTF-8.{short}
use Rattle.amf0_theorems.specs.Refusal.{Field, Refuses, InText, Refused}
use Rattle.amf0_theorems.specs.Refusal.Field.{some}
use Rattle.amf0_theorems.proofs.Refused.{refuse, onward, reworded, text_case, text_stops}

-- ---- a part of an input

-- how going over a part ends: with a number, at a place; or refused
pub data Part : Type 0 where
  goes : (v next : ℕ) → Part
  halts : (answer place : ℕ) → Part

-- one part and then another, from where it ends
infixl 20 ◌then◌
abbrev pub ◌then◌ : Part → (ℕ → ℕ → Part) → Part
goes v n then k = k v n
halts a p then k = halts a p

-- three parts in turn, taken together either way
pub then_then : (o : Part) (f g : ℕ → ℕ → Part) → o then f then g ≡ o then λ v n. f v n then g
then_then (goes v n) f g = refl
then_then (halts a p) f g = refl

-- the same part, and then parts that are the same
pub then_same : (o : Part) (f g : ℕ → ℕ → Part) → ((v n : ℕ) → f v n ≡ g v n) → o then f ≡ o then g
then_same (goes v n) f g same = same v n
then_same (halts a p) f g same = refl

-- going over does not both end and halt
pub goes_halts : {P : Type 0} {v n a p : ℕ} → goes v n ≡ halts a p → P
goes_halts e = let z : ◌≡◌ {A = ℕ} 0 1 = cc in absurd (omega arith)

-- bytes of a grammar, which give the number v, stand from the place `at` of s to n
pub record Standing (St : ℕ → List ℕ → Type 0) (s : List ℕ) (at v n : ℕ) : Type 0 where
  pub row : List ℕ
  pub rest : List ℕ
  pub stands : St v row
  pub here : Here s at row rest
  pub next : n ≡ at + length row

-- what an end of going over says: bytes stand there, or a field refuses; St are the bytes that give a number, L those that lead to a field
abbrev pub Tells : (St : ℕ → List ℕ → Type 0) (L : List ℕ → List ℕ → Field → Type 0) (s : List ℕ) (at : ℕ) → Part → Type 0
Tells St L s at (goes v n) = Standing St s at v n
Tells St L s at (halts a p) = Refused L s at a p

-- from the place `at` of s, a part is gone over just as a grammar has it
pub record Follows (St : ℕ → List ℕ → Type 0) (L : List ℕ → List ℕ → Field → Type 0) (s : List ℕ) (at : ℕ) (o : Part) : Type 0 where
  pub ends : (v : ℕ) (x r : List ℕ) → St v x → Here s at x r → o ≡ goes v (at + length x)
  pub stops : (a p : ℕ) → Refused L s at a p → o ≡ halts a p
  pub told : Tells St L s at o

-- the same, as another grammar has it: both say the same of bytes that stand there
module _ {St Tt : ℕ → List ℕ → Type 0} {L M : List ℕ → List ℕ → Field → Type 0} {s : List ℕ} {at : ℕ} where
  pub turned : {o : Part} → ((v : ℕ) (x r : List ℕ) → Here s at x r → St v x → Tt v x) → ((v : ℕ) (x r : List ℕ) → Here s at x r → Tt v x → St v x)
      → ((r x : List ℕ) (f : Field) → drop at s ≡ x ++ r → L r x f → M r x f) → ((r x : List ℕ) (f : Field) → drop at s ≡ x ++ r → M r x f → L r x f)
      → Follows St L s at o → Follows Tt M s at o
  turned {o} to_t to_s to_m to_l a =
      record {
        ends = λ v x r t h. a.ends v x r (to_s v x r h t) h;
        stops = λ b p q. a.stops b p (onward {m = []} (record { same = refl }) (omega arith) to_l q);
        told = go o a.told;
      }
    where
      go : (o : Part) → Tells St L s at o → Tells Tt M s at o
      go (goes v n) d = record { row = d.row; rest = d.rest; stands = to_t v d.row d.rest d.here d.stands; here = d.here; next = d.next }
      go (halts b p) q = onward {m = []} (record { same = refl }) (omega arith) to_m q

-- bytes that give no number
pub data Plain (P : List ℕ → Type 0) : ℕ → List ℕ → Type 0 where
  plain : {x : List ℕ} → P x → Plain P 0 x

-- ---- two parts

-- one row and then another, which may go by the number of the first
pub data Both (St : ℕ → List ℕ → Type 0) (Next : ℕ → ℕ → List ℕ → Type 0) (u : ℕ) : List ℕ → Type 0 where
  both : {v : ℕ} {x y : List ℕ} → St v x → Next v u y → Both St Next u (x ++ y)

-- the fields of the first, and then those of the second
pub data LeadsBoth (St : ℕ → List ℕ → Type 0) (L : List ℕ → List ℕ → Field → Type 0) (M : ℕ → List ℕ → List ℕ → Field → Type 0) (r : List ℕ) :
    List ℕ → Field → Type 0 where
  one : {x : List ℕ} {f : Field} → L r x f → LeadsBoth St L M r x f
  two : {v : ℕ} {x y : List ℕ} {f : Field} → St v x → M v r y f → LeadsBoth St L M r (x ++ y) f

-- two parts in turn follow the two grammars in turn
module _ {St : ℕ → List ℕ → Type 0} {Next : ℕ → ℕ → List ℕ → Type 0} {L : List ℕ → List ℕ → Field → Type 0} {M : ℕ → List ℕ → List ℕ → Field → Type 0}
    {s : List ℕ} {at : ℕ} (k : ℕ → ℕ → Part) where
  pub in_turn : (o : Part) → Follows St L s at o
      → ((v : ℕ) (x r : List ℕ) → St v x → Here s at x r → Follows (Next v) (M v) s (at + length x) (k v (at + length x)))
      → Follows (Both St Next) (LeadsBoth St L M) s at (o then k)
  in_turn o a b = record { ends = ends; stops = stops; told = first o a.told }
    where
      ends : (u : ℕ) (z r : List ℕ) → Both St Next u z → Here s at z r → o then k ≡ goes u (at + length z)
      ends u z r (Both.both {v} {x} {y} e f) h =
          rw (a.ends v x (y ++ r) e (cut x y h)) ((b v x (y ++ r) e (cut x y h)).ends u y r f (skip x y h) ∙ ap (goes u) (simp length-append (add_assoc _ _ _)))

      stops : (c p : ℕ) → Refused (LeadsBoth St L M) s at c p → o then k ≡ halts c p
      stops c p q = go q.before q.leads q.stands q.here
        where
          go : (z : List ℕ) → LeadsBoth St L M q.rest z q.field → drop at s ≡ z ++ q.rest → p ≡ at + length z → o then k ≡ halts c p
          go z (LeadsBoth.one l) h n =
              rw (a.stops c p (record { before = z; rest = q.rest; field = q.field; stands = h; here = n; leads = l; refuses = q.refuses }))
          go z (LeadsBoth.two {v} {x} {y} e l) h n =
              let i : Here s at (x ++ y) q.rest = record { same = h } in
              rw (a.ends v x (y ++ q.rest) e (cut x y i))
              ((b v x (y ++ q.rest) e (cut x y i)).stops c p
              (record {
                before = y;
                rest = q.rest;
                field = q.field;
                stands = (skip x y i).same;
                here = n ∙ simp length-append (sym (add_assoc at (length x) (length y)));
                leads = l;
                refuses = q.refuses;
              }))

      second : (v m : ℕ) (d : Standing St s at v m) (i : Part) → Tells (Next v) (M v) s (at + length d.row) i → Tells (Both St Next) (LeadsBoth St L M) s at i
      second v m d (goes u n) e =
          record {
            row = d.row ++ e.row;
            rest = e.rest;
            stands = Both.both d.stands e.stands;
            here = join d.here refl e.here;
            next = simp length-append (e.next ∙ add_assoc at (length d.row) (length e.row));
          }
      second v m d (halts c p) q = onward d.here refl (λ r x f e. LeadsBoth.two d.stands) q

      first : (i : Part) → Tells St L s at i → Tells (Both St Next) (LeadsBoth St L M) s at (i then k)
      first (halts c p) q = reworded (λ r x f. LeadsBoth.one) q
      first (goes v m) d = rw d.next (second v m d (k v (at + length d.row)) (b v d.row d.rest d.stands d.here).told)

-- the number that a part gives is not looked at
pub record Some (St : ℕ → List ℕ → Type 0) (x : List ℕ) : Type 0 where
  pub number : ℕ
  pub stands : St number x

-- a part that follows a grammar follows it without its number
pub numberless : {St : ℕ → List ℕ → Type 0} {L : List ℕ → List ℕ → Field → Type 0} {s : List ℕ} {at : ℕ} (o : Part) → Follows St L s at o
    → Follows (Plain (Some St)) L s at (o then λ v n. goes 0 n)
numberless {St} {L} {s} {at} o a = record { ends = ends; stops = λ b p q. rw (a.stops b p q); told = go o a.told }
  where
    ends : (v : ℕ) (x r : List ℕ) → Plain (Some St) v x → Here s at x r → o then (λ v n. goes 0 n) ≡ goes v (at + length x)
    ends v x r (Plain.plain e) h = rw (a.ends e.number x r e.stands h)

    go : (i : Part) → Tells St L s at i → Tells (Plain (Some St)) L s at (i then λ v n. goes 0 n)
    go (halts b p) q = q
    go (goes v n) d =
        record { row = d.row; rest = d.rest; stands = Plain.plain (record { number = v; stands = d.stands }); here = d.here; next = d.next }

-- ---- one field

-- this field is due, and nothing stands before it
pub data Only (f : Field) : List ℕ → Field → Type 0 where
  only : Only f [] f

-- it is refused where it is due
pub only_refused : {f : Field} (s : List ℕ) (at : ℕ) {a : ℕ} → Refuses f (drop at s) a → Refused (λ r. Only f) s at a at
only_refused s at q = refuse (record { same = refl }) (sym (add-zero at)) Only.only q

-- a part that is one field
module _ {St : ℕ → List ℕ → Type 0} {f : Field} {s : List ℕ} {at : ℕ} {o : Part} where
  pub one_field : ((v : ℕ) (x r : List ℕ) → St v x → Here s at x r → o ≡ goes v (at + length x)) → ((a : ℕ) → Refuses f (drop at s) a → o ≡ halts a at)
      → Tells St (λ r. Only f) s at o → Follows St (λ r. Only f) s at o
  one_field ends stops told =
      record { ends = ends; stops = λ a p q. go a p q.rest q.before q.field q.leads q.stands q.here q.refuses; told = told }
    where
      go : (a p : ℕ) (r z : List ℕ) (g : Field) → Only f z g → drop at s ≡ z ++ r → p ≡ at + length z → Refuses g r a → o ≡ halts a p
      go a p r z g Only.only h n q = rw (n, add-zero at) (stops a (rw h q))

-- a number in w bytes
pub data Number (w : ℕ) : ℕ → List ℕ → Type 0 where
  is : {n : ℕ} → n < 256 ^ w → Number w n (digits w n)

-- going over w bytes as a number
abbrev pub number_by : ℕ → List ℕ → ℕ → Part
number_by w s at = pick (leb (at + w) (length s)) (goes (number (bytes_at w s at)) (at + w)) (halts 2 at)

module _ (w : ℕ) (s : List ℕ) (bs : Bytes s) (at : ℕ) (one : 1 ≤ w) where
  pub number_follows : Follows (Number w) (λ r. Only (some w)) s at (number_by w s at)
  number_follows = one_field ends stops told
    where
      ends : (v : ℕ) (x r : List ℕ) → Number w v x → Here s at x r → number_by w s at ≡ goes v (at + length x)
      ends v x r (Number.is l) h =
          let d = length_digits w v in
          rw (le-leb (at + w) (length s) (omega (arith, inside h (omega arith))), there w h d, number_digits w v l, d)

      stops : (a : ℕ) → Refuses (some w) (drop at s) a → number_by w s at ≡ halts a at
      stops a (Refuses.short l) = rw (lt-leb (at + w) (length s) (omega (arith, length-drop at s)))

      told : Tells (Number w) (λ r. Only (some w)) s at (number_by w s at)
      told = picked (Tells (Number w) (λ r. Only (some w)) s at) (leb (at + w) (length s)) _ _
          (λ t.
          let d = number_stood s bs at w (leb-true (at + w) (length s) t) in
          record {
            row = digits w (number (bytes_at w s at));
            rest = drop (at + w) s;
            stands = Number.is d.bound;
            here = d.here;
            next = omega (arith, length_digits w (number (bytes_at w s at)));
          })
          (λ t.
          let l = leb-false (at + w) (length s) t in
          let few : length (drop at s) < w = omega (arith, length-drop at s) in
          only_refused s at (Refuses.short few))

-- ---- a text behind its length

-- the bytes x are a text behind its length
pub record Texted (x : List ℕ) : Type 0 where
  pub letters : List ℕ
  pub utf_8 : UTF-8 letters x

-- going over a text behind its length
abbrev pub text_by : List ℕ → ℕ → Part
text_by s at = got_text halts (text_at 2 s at) λ p n q. goes 0 q

pub text_follows : (s : List ℕ) → Bytes s → (at : ℕ) → Follows (Plain Texted) (λ r. InText 2) s at (text_by s at)
text_follows s bs at =
    record {
      ends = ends;
      stops = λ a p q. rw (q.here, text_stops (omega arith) q.leads q.refuses (record { same = q.stands }));
      told = text_case (Tells (Plain Texted) (λ r. InText 2) s at) halts s bs at 2 (omega arith) _ stands (λ a p q. q);
    }
  where
    ends : (v : ℕ) (x r : List ℕ) → Plain Texted v x → Here s at x r → text_by s at ≡ goes v (at + length x)
    ends v x r (Plain.plain t) = go t.utf_8
      where
        go : {t x : List ℕ} → UTF-8 t x → Here s at x r → text_by s at ≡ goes 0 (at + length x)
        go (short t l u) h = rw (text_at_lem 2 t h l u (omega arith)) (ap (goes 0) (omega arith))

    stands : (t r : List ℕ) → Here s at (digits 2 (length t) ++ t) r → length t < 256 ^ 2 → utf8 t ≡ true → Standing (Plain Texted) s at 0 (at + 2 + length t)
    stands t r h l u =
        record {
          row = digits 2 (length t) ++ t;
          rest = r;
          stands = Plain.plain (record { letters = t; utf_8 = short t l u });
          here = h;
          next = omega arith;
        }
