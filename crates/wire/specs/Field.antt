-- The fields that a reading is made of: each is whole, and then right, or refused at its place.
use Rattle.std.specs.Prelude.{ℕ, ◌+◌, List, [], ◌∷◌, Bool, true, false, length, take, drop, leb, eqb, Result, Ok, Err}
use Rattle.wire.specs.declared.cursor.Cursor.{Cursor}
use Rattle.wire.specs.declared.cursor.Span.{Span}
use Rattle.wire.specs.Answer.{Verdict, denied}
use Rattle.wire.specs.Choice.{pick}
use Rattle.wire.specs.Number.{number}
use Rattle.wire.specs.Utf8.{utf8}

abbrev pub to : ℕ → Cursor
to n = record { at = n }

-- w bytes of s from a place on
abbrev pub bytes_at : ℕ → List ℕ → ℕ → List ℕ
bytes_at w s at = take w (drop at s)

-- what a field holds, and the cursor behind it; or its refusal
abbrev pub Parsed : Type 0 → Type 0
Parsed A = Result (A × Cursor) Verdict

-- a field that holds this, and ends at a cursor or at a place
abbrev pub got_to : {A : Type 0} → A → Cursor → Parsed A
got_to a c = Ok (a, c)

abbrev pub got_at : {A : Type 0} → A → ℕ → Parsed A
got_at a n = got_to a (to n)

-- a text by its place and its length
abbrev pub text_to : ℕ → ℕ → Cursor → Parsed Span
text_to p n c = got_to (record { place = p; length = n }) c

-- A field of w bytes: what comes of it where it is whole, else 2 at its place.
abbrev pub whole : {A : Type 0} → ℕ → List ℕ → ℕ → Result A Verdict → Result A Verdict
whole w s at a = pick (leb (at + w) (length s)) a (denied 2 at)

-- the number in w bytes
abbrev pub uint_at : ℕ → List ℕ → ℕ → Parsed ℕ
uint_at w s at = whole w s at (got_at (number (bytes_at w s at)) (at + w))

unfoldable pub u8_at : List ℕ → ℕ → Parsed ℕ
u8_at s at = uint_at 1 s at

unfoldable pub u16_at : List ℕ → ℕ → Parsed ℕ
u16_at s at = uint_at 2 s at

unfoldable pub u24_at : List ℕ → ℕ → Parsed ℕ
u24_at s at = uint_at 3 s at

unfoldable pub u32_at : List ℕ → ℕ → Parsed ℕ
u32_at s at = uint_at 4 s at

unfoldable pub u64_at : List ℕ → ℕ → Parsed ℕ
u64_at s at = uint_at 8 s at

-- n bytes of text: whole, then UTF-8
unfoldable pub str_at : ℕ → List ℕ → ℕ → Parsed Span
str_at n s at =
    whole n s at (pick (utf8 (bytes_at n s at)) (got_at (record { place = at; length = n }) (at + n)) (denied 3 at))

-- a text behind its length of w bytes: two fields
unfoldable pub text_at : ℕ → List ℕ → ℕ → Parsed Span
text_at w s at = whole w s at (str_at (number (bytes_at w s at)) s (at + w))

-- the same rows of bytes
abbrev pub equal : List ℕ → List ℕ → Bool
equal [] [] = true
equal [] (b ∷ t) = false
equal (a ∷ s) [] = false
equal (a ∷ s) (b ∷ t) = pick (eqb a b) (equal s t) false

-- fixed bytes: whole, then right
unfoldable pub tag_at : List ℕ → List ℕ → ℕ → Result Cursor Verdict
tag_at fixed s at =
    whole (length fixed) s at
    (pick (equal (bytes_at (length fixed) s at) fixed) (Ok (to (at + length fixed))) (denied 3 at))

-- What comes of a field that was read, or of its refusal.
abbrev pub got {ℓ} : {A : Type ℓ} {B : Type 0} → (ℕ → ℕ → A) → Parsed B → (B → ℕ → A) → A
got stop (Ok x) k = k x.0 x.1.at
got stop (Err r) k = stop r.answer r.place

abbrev pub got_text {ℓ} : {A : Type ℓ} → (ℕ → ℕ → A) → Parsed Span → (ℕ → ℕ → ℕ → A) → A
got_text stop x k = got stop x λ t q. k t.place t.length q

abbrev pub past_tag {ℓ} : {A : Type ℓ} → (ℕ → ℕ → A) → Result Cursor Verdict → (ℕ → A) → A
past_tag stop (Ok c) k = k c.at
past_tag stop (Err r) k = stop r.answer r.place
