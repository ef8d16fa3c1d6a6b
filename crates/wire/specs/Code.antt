-- What the steps of the UTF-8 check say of the bytes behind them.
use Rattle.std.specs.Prelude.{ℕ, ◌+◌, ◌≤◌, ◌<◌, ◌≡◌, List, [], ◌∷◌, Bool, false, length, get_or, drop, ltb, eqb, Option, Some, None}
use Rattle.wire.specs.declared.utf8.Lead.{Lead}
use Rattle.wire.specs.declared.utf8.Lead.TheVariants.{One, Two, Three, Four}
use Rattle.wire.specs.Choice.{pick}
use Rattle.wire.specs.Utf8.{Range, ◌to◌, tail, ends}

-- what is left to check behind a first byte
abbrev pub goes : Option Lead → List ℕ → Bool
goes (Some One) s = ends [] s
goes (Some Two) s = ends (tail ∷ []) s
goes (Some (Three l h)) s = ends (l to h ∷ tail ∷ []) s
goes (Some (Four l h)) s = ends (l to h ∷ tail ∷ tail ∷ []) s
goes None s = false

-- what a first byte asks for is what its form has behind it
pub record Asked (b : ℕ) (r : Option Lead) : Type 0 where
  pub same : (s : List ℕ) → ends [] (b ∷ s) ≡ goes r s

-- what is left to check behind a step: bytes in these ranges, and then characters to the end
abbrev pub left : List Range → Option ℕ → List ℕ → Bool
left rs (Some i) s = ends rs (drop i s)
left rs None s = false

-- a step comes to a place behind i, if to any
abbrev pub Ahead : List ℕ → ℕ → Option ℕ → Type 0
Ahead s i (Some j) = (i < j) × (j ≤ length s)
Ahead s i None = Unit

-- the step over a byte from low to high at i
pub record Over (s : List ℕ) (i low high : ℕ) (r : Option ℕ) : Type 0 where
  pub same : (rs : List Range) → ends (low to high ∷ rs) (drop i s) ≡ left rs r s
  pub ahead : (k : ℕ) → k ≤ i → Ahead s k r

-- the step over a character, and maybe more of them
pub record Stepped (s : List ℕ) (i : ℕ) (r : Option ℕ) : Type 0 where
  pub same : ends [] (drop i s) ≡ left [] r s
  pub ahead : Ahead s i r

-- the bytes from i on and before j are ASCII
pub record Plain (s : List ℕ) (i j : ℕ) : Type 0 where
  pub within : j ≤ length s
  pub ascii : (k : ℕ) → i ≤ k → k < j → get_or s k 0 < 0x80

-- whole characters stand from i to j
pub record Run (s : List ℕ) (i j : ℕ) : Type 0 where
  pub from : i ≤ j
  pub within : j ≤ length s
  pub same : ends [] (drop i s) ≡ ends [] (drop j s)

-- the step over more text at j, if any
pub record Onward (s : List ℕ) (j : ℕ) (r : Option ℕ) : Type 0 where
  pub same : ends [] (drop j s) ≡ left [] r s
  pub ahead : (k : ℕ) → k < j → j ≤ length s → Ahead s k r

-- ---- text whose characters have up to three bytes, looked at byte by byte

-- what is left to check behind the bytes q and p
abbrev pub need : ℕ → ℕ → List Range
need q p =
    pick (ltb p 0xC0)
    (pick (ltb q 0xE0) [] (tail ∷ []))
    (pick (ltb p 0xE0)
    (tail ∷ [])
    (pick (eqb p 0xE0) (0xA0 to 0xBF ∷ tail ∷ []) (pick (eqb p 0xED) (0x80 to 0x9F ∷ tail ∷ []) (tail ∷ tail ∷ []))))

-- b is right behind q and p
pub record Fits (q p b : ℕ) : Type 0 where
  pub same : (s : List ℕ) → ends (need q p) (b ∷ s) ≡ ends (need p b) s

-- what is left to check behind the two bytes at i
abbrev pub owed : List ℕ → ℕ → Bool
owed s i = ends (need (get_or s i 0) (get_or s (i + 1) 0)) (drop (i + 2) s)

-- what is left to check behind the two bytes at i is what is left behind those at j
pub record Owed (s : List ℕ) (i j : ℕ) : Type 0 where
  pub from : i ≤ j
  pub within : j + 2 ≤ length s
  pub same : owed s i ≡ owed s j

-- the step to the end of the character that the two bytes at i leave open
pub record Paid (s : List ℕ) (i : ℕ) (r : Option ℕ) : Type 0 where
  pub same : owed s i ≡ left [] r s
  pub ahead : (k : ℕ) → k < i + 2 → Ahead s k r
