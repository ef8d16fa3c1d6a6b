-- A reading without records: how it ends, and counts of what no record keeps.
use Rattle.std.specs.Prelude.{ℕ, ◌+◌, ◌-◌, ◌≤◌, ◌^◌, ◌%◌, ◌≡◌, List, Bool, false, length, get_or, leb, ltb, eqb, slice_set, Result, Ok, Err}
use Rattle.wire.specs.Choice.{pick}
use Rattle.wire.specs.Answer.{Verdict, denied}
use Rattle.wire.specs.Field.{to, Parsed, got_to, got_at, got_text}
use Rattle.wire.specs.Limit as limit
use Rattle.wire.specs.declared.cursor.Cursor.{Cursor}
use Rattle.wire.specs.declared.cursor.Span.{Span}
use Rattle.image.specs.Due.{Due, Fact, end, stop, seen, due, on_end}
use Rattle.image.specs.Due.Fact.{own, dropped}
use Rattle.amf0.specs.declared.read.Follow.{Follow}
use Rattle.amf0.specs.Fields.{Fields}

-- how a reading ends: behind what it read, or refused
abbrev pub Ended : Type 0
Ended = Result Cursor Verdict

abbrev pub ends_at : Cursor → Ended
ends_at c = Ok c

-- how a reading ends, whatever falls due and is seen on the way
abbrev pub end_of : Due → Ended
end_of d = on_end d (λ n. ends_at (to n)) denied

-- ---- a value's own fields, with no word of their record

abbrev pub Passed : Type 0
Passed = Parsed Follow

abbrev pub passed : Fields → Passed
passed (Ok x) = got_to x.1 x.2
passed (Err r) = Err r

-- those that end with n bytes, in a part that begins at the place b of a whole
abbrev pub bytes_passed : ℕ → ℕ → List ℕ → ℕ → Follow → Passed
bytes_passed b n s at f = pick (leb (at + n) (length s)) (got_at f (at + n)) (denied 2 (b + at))

-- those that end with a text
abbrev pub text_passed : ℕ → Parsed Span → Follow → Passed
text_passed b x f = got_text (λ a p. denied a (b + p)) x (λ p n q. got_at f q)

-- ---- the counters

-- one more at the place i; counters are of 32 bits
abbrev pub more : ℕ → List ℕ → List ℕ
more i t = slice_set t i ((get_or t i 0 + 1) % 2 ^ 32)

abbrev pub more_if : Bool → ℕ → List ℕ → List ℕ
more_if b i t = pick b (more i t) t

-- at least d at the place of the deepest value
abbrev pub deepened : ℕ → List ℕ → List ℕ
deepened d t = pick (ltb (get_or t 19 0) d) (slice_set t 19 d) t

-- the place of a marker's counter: its own, up to 11 hex, and one for all above
abbrev pub counter_of : ℕ → ℕ
counter_of m = pick (leb m 0x11) m 18

-- a row of n bytes with the marker m is a long string that would fit a short one: a marker, a length in four bytes and at most 65,535 letters
abbrev pub shortens : ℕ → ℕ → Bool
shortens m n = pick (eqb m 0x0C) (leb n 65540) false

-- a row with the marker m and then b is a boolean that is neither 0 nor 1
abbrev pub uneven : ℕ → ℕ → Bool
uneven m b = pick (eqb m 0x01) (ltb 1 b) false

-- The counters with a fact: 0 to 17 the markers, 18 those above, 19 the deepest value, 20 keys dropped that were not empty, 21 long strings that would
-- fit a short one, 22 booleans above 1.
unfoldable pub noted : Fact → List ℕ → List ℕ
noted (own left x) t =
    deepened (limit.levels - left)
    (more_if (uneven (get_or x 0 0) (get_or x 1 0)) 22 (more_if (shortens (get_or x 0 0) (length x)) 21 (more (counter_of (get_or x 0 0)) t)))
noted (dropped n) t = more_if (ltb 0 n) 20 t

-- ---- the reading

-- how a reading went that made no records, and the counters then
pub record Told : Type 0 where
  pub ended : Ended
  pub counts : List ℕ

abbrev pub told : Ended → List ℕ → Told
told x t = record { ended = x; counts = t }

-- The reading carried out with no record laid: each fact is counted.
unfoldable pub count : Due → List ℕ → Told
count (end n) t = told (ends_at (to n)) t
count (stop a p) t = told (denied a p) t
count (seen f d) t = count d (noted f t)
count (due r p d) t = count d t

-- a reading that goes on does so at a place from `low` to `high`
pub record Onward (x : Ended) (low high : ℕ) : Type 0 where
  pub bounds : (c : Cursor) → x ≡ ends_at c → (low ≤ c.at) × (c.at ≤ high)
