-- RFC 3629, section 4, as a relation: the definition `utf8` of the specs takes the rows that it has, and no others.
use Rattle.std.specs.Prelude.{◌≤◌, ◌≡◌, ◌∷◌, ◌++◌}
use Rattle.wire.proofs.Kit.{ℕ, refl, ap, ◌∙◌, List, [], true, false, drop, leb, leb-true}
use lib.Dec.{T}
use Rattle.wire.specs.Utf8.{Range, Form, ◌to◌, has, tail, forms, begun, ends, utf8}
use Rattle.wire.specs.Choice.{pick}
use Rattle.wire.proofs.Laws.{picked, false_true}
use Rattle.wire.proofs.Steps.{has_yes, below, begins_at}

-- bytes, each of its range
pub data Match : List Range → List ℕ → Type 0 where
  none : Match [] []
  more : {r : Range} {rs : List Range} {b : ℕ} {x : List ℕ} → r.low ≤ b → b ≤ r.high → Match rs x → Match (r ∷ rs) (b ∷ x)

-- UTF8-char
pub data Char : List ℕ → Type 0 where
  utf8_1 : {x : List ℕ} → Match (0x00 to 0x7F ∷ []) x → Char x
  utf8_2 : {x : List ℕ} → Match (0xC2 to 0xDF ∷ tail ∷ []) x → Char x
  utf8_3_E0 : {x : List ℕ} → Match (0xE0 to 0xE0 ∷ 0xA0 to 0xBF ∷ tail ∷ []) x → Char x
  utf8_3_E1_EC : {x : List ℕ} → Match (0xE1 to 0xEC ∷ tail ∷ tail ∷ []) x → Char x
  utf8_3_ED : {x : List ℕ} → Match (0xED to 0xED ∷ 0x80 to 0x9F ∷ tail ∷ []) x → Char x
  utf8_3_EE_EF : {x : List ℕ} → Match (0xEE to 0xEF ∷ tail ∷ tail ∷ []) x → Char x
  utf8_4_F0 : {x : List ℕ} → Match (0xF0 to 0xF0 ∷ 0x90 to 0xBF ∷ tail ∷ tail ∷ []) x → Char x
  utf8_4_F1_F3 : {x : List ℕ} → Match (0xF1 to 0xF3 ∷ tail ∷ tail ∷ tail ∷ []) x → Char x
  utf8_4_F4 : {x : List ℕ} → Match (0xF4 to 0xF4 ∷ 0x80 to 0x8F ∷ tail ∷ tail ∷ []) x → Char x

-- UTF8-octets
pub data Utf8 : List ℕ → Type 0 where
  end : Utf8 []
  char : {x s : List ℕ} → Char x → Utf8 s → Utf8 (x ++ s)

-- ---- every such row passes

match_ends : {rs : List Range} {x : List ℕ} → Match rs x → (s : List ℕ) → ends rs (x ++ s) ≡ ends [] s
unfolding ends
match_ends none s = refl
match_ends (more {r} {rs} {b} {x} g h m) s = rw (has_yes r.low r.high b g h) (match_ends m s)

form : {f : Form} {fs : List Form} {x : List ℕ} (k : ℕ) → drop k forms ≡ f ∷ fs → T (below k f.first.low forms)
    → Match (f.first ∷ f.behind) x → (s : List ℕ) → ends [] (x ++ s) ≡ ends [] s
form k e t (more {b} {x} g h m) s = begins_at b k e t g h (x ++ s) ∙ match_ends m s

passes : {x : List ℕ} → Char x → (s : List ℕ) → ends [] (x ++ s) ≡ ends [] s
passes (utf8_1 m) = form 0 refl tt m
passes (utf8_2 m) = form 1 refl tt m
passes (utf8_3_E0 m) = form 2 refl tt m
passes (utf8_3_E1_EC m) = form 3 refl tt m
passes (utf8_3_ED m) = form 4 refl tt m
passes (utf8_3_EE_EF m) = form 5 refl tt m
passes (utf8_4_F0 m) = form 6 refl tt m
passes (utf8_4_F1_F3 m) = form 7 refl tt m
passes (utf8_4_F4 m) = form 8 refl tt m

pub utf8_complete : {s : List ℕ} → Utf8 s → utf8 s ≡ true
unfolding ends
utf8_complete end = refl
utf8_complete (char {x} {s} c r) = passes c s ∙ utf8_complete r

-- ---- and no other

-- of a row that passes: bytes of the ranges, and then characters
record Parts (rs : List Range) (s : List ℕ) : Type 0 where
  x : List ℕ
  y : List ℕ
  same : x ++ y ≡ s
  these : Match rs x
  then : Utf8 y

-- each form of a list is one of the RFC's
abbrev Chars : List Form → Type 0
Chars [] = Unit {0}
Chars (f ∷ fs) = ((x : List ℕ) → Match (f.first ∷ f.behind) x → Char x) × Chars fs

infixr 20 ◌also◌
abbrev ◌also◌ : {A B : Type 0} → A → B → A × B
a also b = (a, b)

chars : Chars forms
chars =
    (λ x m. utf8_1 m)
    also (λ x m. utf8_2 m)
    also (λ x m. utf8_3_E0 m)
    also (λ x m. utf8_3_E1_EC m)
    also (λ x m. utf8_3_ED m)
    also (λ x m. utf8_3_EE_EF m)
    also (λ x m. utf8_4_F0 m)
    also (λ x m. utf8_4_F1_F3 m)
    also (λ x m. utf8_4_F4 m)
    also tt

within : (r : Range) (b : ℕ) → has r b ≡ true → (r.low ≤ b) × (b ≤ r.high)
within r b =
    picked (λ t. t ≡ true → (r.low ≤ b) × (b ≤ r.high)) (leb b r.high) _ _
    (λ h e. (leb-true _ _ e, leb-true _ _ h))
    (λ h e. absurd (false_true e))

first : (fs : List Form) → Chars fs → (b : ℕ) (s : List ℕ) → ((rs : List Range) → ends rs s ≡ true → Parts rs s)
    → begun fs b (λ rs. ends rs s) ≡ true → Utf8 (b ∷ s)
first [] cs b s go = λ e. absurd (false_true e)
first (f ∷ fs) cs b s go =
    picked (λ t. t ≡ true → Utf8 (b ∷ s)) (has f.first b) _ _
    (λ h e.
    let p = go f.behind e in
    let g = within f.first b h in
    rw (← p.same) (char (cs.0 (b ∷ p.x) (more g.0 g.1 p.these)) p.then))
    (λ h e. first fs cs.1 b s go e)

next : (r : Range) (rs : List Range) (b : ℕ) (s : List ℕ) → (ends rs s ≡ true → Parts rs s)
    → pick (has r b) (ends rs s) false ≡ true → Parts (r ∷ rs) (b ∷ s)
next r rs b s go =
    picked (λ t. t ≡ true → Parts (r ∷ rs) (b ∷ s)) (has r b) _ _
    (λ h e.
    let p = go e in
    let g = within r b h in
    record { x = b ∷ p.x; y = p.y; same = ap (λ l. b ∷ l) p.same; these = more g.0 g.1 p.these; then = p.then })
    (λ h e. absurd (false_true e))

parts : (s : List ℕ) (rs : List Range) → ends rs s ≡ true → Parts rs s
unfolding ends
parts [] [] e = record { x = []; y = []; same = refl; these = none; then = end }
parts [] (r ∷ rs) e = absurd (false_true e)
parts (b ∷ s) [] e = record { x = []; y = b ∷ s; same = refl; these = none; then = first forms chars b s (parts s) e }
parts (b ∷ s) (r ∷ rs) e = next r rs b s (parts s rs) e

all : {s x y : List ℕ} → Match [] x → x ++ y ≡ s → Utf8 y → Utf8 s
all none e u = rw (← e) u

pub utf8_sound : (s : List ℕ) → utf8 s ≡ true → Utf8 s
utf8_sound s e = let p = parts s [] e in all p.these p.same p.then
