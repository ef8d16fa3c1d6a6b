-- What the steps through the ranges say, and what goes out as it stands: no character that is hidden, no quote and no backslash.
use Rattle.std.specs.Prelude.{◌+◌, ◌≤◌, ◌<◌, ◌≡◌, ◌∷◌}
use Rattle.std.specs.Prelude.{Option, None}
use Rattle.wire.proofs.Kit.{ℕ, refl, sym, arith, List, [], Bool, true, false, length, drop, get_or, eqb, ltb, leb, drop-cons, add-one}
use Rattle.wire.proofs.Kit.{lt-ltb, le-ltb, le-leb, lt-leb, eqb-false, ltb-true, leb-true, leb-false}
use Rattle.std.proofs.lemmas.Option.{none-some}
use Rattle.wire.proofs.Laws.{picked, false_true}
use Rattle.wire.specs.Choice.{pick}
use Rattle.figures.specs.Escape.{hidden, within, escape_of, point_of}
use Rattle.figures.specs.declared.escape.Escape.{Escape}

-- a step through the ranges
module _ (t : List (List ℕ)) (i p : ℕ) (h : i < length t) where
  pub below : p < get_or (get_or t i []) 0 0 → within (drop i t) p ≡ false
  unfolding within
  below g = rw (drop-cons t i [] h, lt-ltb _ _ g)

  pub inside : get_or (get_or t i []) 0 0 ≤ p → p ≤ get_or (get_or t i []) 1 0 → within (drop i t) p ≡ true
  unfolding within
  inside f g = rw (drop-cons t i [] h, le-ltb _ _ f, le-leb _ _ g)

  pub above : get_or (get_or t i []) 0 0 ≤ p → get_or (get_or t i []) 1 0 < p → within (drop i t) p ≡ within (drop (i + 1) t) p
  unfolding within
  above f g = rw (drop-cons t i [] h, le-ltb _ _ f, lt-leb _ _ g, add-one i)

-- ranges that go up from a number on
abbrev GoesUp : ℕ → List (List ℕ) → Type 0
GoesUp n [] = Unit
GoesUp n (r ∷ rs) = (n ≤ get_or r 0 0) × GoesUp (get_or r 0 0) rs

-- a number is in none of the ranges
abbrev Outside : List (List ℕ) → ℕ → Type 0
Outside [] p = Unit
Outside (r ∷ rs) p = (get_or r 0 0 ≤ p → p ≤ get_or r 1 0 → ⊥) × Outside rs p

-- the test of it
abbrev rises : ℕ → List (List ℕ) → Bool
rises n [] = true
rises n (r ∷ rs) = pick (leb n (get_or r 0 0)) (rises (get_or r 0 0) rs) false

goes_up : (n : ℕ) (t : List (List ℕ)) → rises n t ≡ true → GoesUp n t
goes_up n [] = λ e. tt
goes_up n (r ∷ rs) =
    let low = get_or r 0 0 in
    picked (λ b. b ≡ true → GoesUp n (r ∷ rs)) (leb n low) _ _
    (λ t e. (leb-true n low t, goes_up low rs e))
    (λ f e. absurd (false_true e))

before : (t : List (List ℕ)) (n p : ℕ) → GoesUp n t → p < n → Outside t p
before [] n p u h = tt
before (r ∷ rs) n p u h = ((λ f g. omega (arith, u.0)), before rs (get_or r 0 0) p u.1 (omega (arith, u.0)))

outside : (t : List (List ℕ)) (n p : ℕ) → GoesUp n t → within t p ≡ false → Outside t p
unfolding within
outside [] n p u = λ e. tt
outside (r ∷ rs) n p u =
    let Goal : Bool → Type 0 = λ b. b ≡ false → Outside (r ∷ rs) p in
    picked Goal (ltb p (get_or r 0 0)) _ _
    (λ t e.
    let h = ltb-true p (get_or r 0 0) t in
    ((λ f g. omega (arith, h, f)), before rs (get_or r 0 0) p u.1 h))
    (λ f. picked Goal (leb p (get_or r 1 0)) _ _
    (λ t e. absurd (false_true (cc)))
    (λ g e. ((λ a b. omega (arith, leb-false p (get_or r 1 0) g, b)), outside rs (get_or r 0 0) p u.1 e)))

pub record Plain (p : ℕ) : Type 0 where
  pub not_hidden : Outside hidden p
  pub no_quote : p ≡ 0x22 → ⊥
  pub no_backslash : p ≡ 0x5C → ⊥

pub plain : (p : ℕ) → escape_of p ≡ None → Plain p
unfolding escape_of
plain p =
    let Goal : Option Escape → Type 0 = λ e. e ≡ None → Plain p in
    picked Goal (eqb p 0x09) _ _ (λ t h. absurd (none-some _ (sym h))) λ _.
    picked Goal (eqb p 0x0A) _ _ (λ t h. absurd (none-some _ (sym h))) λ _.
    picked Goal (eqb p 0x0D) _ _ (λ t h. absurd (none-some _ (sym h))) λ _.
    picked Goal (eqb p 0x22) _ _ (λ t h. absurd (none-some _ (sym h))) λ quote.
    picked Goal (eqb p 0x5C) _ _ (λ t h. absurd (none-some _ (sym h))) λ backslash.
    picked Goal (within hidden p) _ _ (λ t h. absurd (none-some _ (sym h))) λ seen h.
    record {
      not_hidden = outside hidden 0 p (goes_up 0 hidden refl) seen;
      no_quote = eqb-false p 0x22 quote;
      no_backslash = eqb-false p 0x5C backslash;
    }

-- characters of each length, as RFC 3629 has them in section 7, and U+00E9
pub of_one : point_of (0x41 ∷ []) ≡ 0x41
unfolding point_of
of_one = refl

pub of_two : point_of (0xC3 ∷ 0xA9 ∷ []) ≡ 0xE9
unfolding point_of
of_two = refl

pub of_three : point_of (0xE2 ∷ 0x89 ∷ 0xA2 ∷ []) ≡ 0x2262
unfolding point_of
of_three = refl

pub of_four : point_of (0xF0 ∷ 0xA3 ∷ 0x8E ∷ 0xB4 ∷ []) ≡ 0x233B4
unfolding point_of
of_four = refl
