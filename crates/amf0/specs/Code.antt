-- What the reader's steps tell each other besides what they read.
use Rattle.std.specs.Prelude.{ℕ, ◌+◌, ◌*◌, ◌≤◌, ◌≡◌, List, Bool, Option, Some, None, Result, Ok, Err}
use Rattle.wire.specs.Choice.{pick}
use Rattle.wire.specs.Limit as limit
use Rattle.wire.specs.declared.cursor.Cursor.{Cursor}
use Rattle.image.specs.declared.record.Record.{Record}
use Rattle.wire.specs.Answer.{Verdict, denied}
use Rattle.image.specs.Due.{Step, went_to}
use Rattle.image.specs.Taking.{Taken, taken_to}
use Rattle.image.specs.Out.{Out, end, row, pour, poured}
use Rattle.amf0.specs.declared.write.Rest.{Rest}
use Rattle.amf0.specs.declared.write.Rest.TheVariants.{Nothing, Pairs, Dense, Values}
use Rattle.amf0.specs.declared.write.Before.{Before}
use Rattle.amf0.specs.Writing.{before, taken, valued, paired, shape_of}

-- ---- writing

-- the most bytes that a row comes to: three numbers, and a text
abbrev pub longest : ℕ
longest = 24 + limit.bytes

-- the most that a byte of an image is put out as, with what a layer puts around its values: four rows
abbrev pub growth : ℕ
growth = 4 * longest

-- how many bytes a writing can have put out at a place of the image
abbrev pub room : ℕ → ℕ
room at = before + growth * at

-- a step that goes on does so at a place from `low` to `high`, with no more put out than `count` and what the image's bytes from `low` on can be
pub record Ahead (x : Step) (low high count : ℕ) : Type 0 where
  pub bounds : (c : Cursor) (n : ℕ) → x ≡ went_to c n → (low ≤ c.at) × (c.at ≤ high) × (n + growth * low ≤ count + growth * c.at)

-- a value's own bytes were put out up to a cursor, with so many bytes put out, and what follows then; or a refusal
abbrev pub Begun : Type 0
Begun = Result (Cursor × ℕ × Rest) Verdict

abbrev pub begun_to : Cursor → ℕ → Rest → Begun
begun_to c n f = Ok (c, n, f)

-- a step, and what follows it
abbrev pub then_of : Step → Rest → Begun
then_of (Ok x) f = begun_to x.0 x.1 f
then_of (Err r) f = Err r

-- what was read of the record at a place, or 6
abbrev pub of_record : {A : Type 0} → ℕ → Option A → Result A Verdict
of_record at (Some x) = Ok x
of_record at None = denied 6 at

-- the writing from a value's record on, with what follows its own bytes
abbrev pub opened : Taken → List ℕ → ℕ → (Rest → ℕ → Out) → Out
opened t text at k = taken at t λ r q. valued at (shape_of r) λ w f. row text w at (k f q)

-- a value's own bytes were put out, and the writing goes on with what follows, whatever that is; or it is refused
abbrev pub Owned : Begun → List ℕ → Taken → List ℕ → ℕ → ℕ → List ℕ → Type 0
Owned (Ok x) o t text at count out =
    ((k : Rest → ℕ → Out) → pour (opened t text at k) count out ≡ pour (k x.2 x.0.at) x.1 o) × (x.1 ≤ count + longest) × ((r : Record) × (t ≡ taken_to r x.0))
Owned (Err r) o t text at count out = (k : Rest → ℕ → Out) → pour (opened t text at k) count out ≡ poured (Err r) o

-- the writing from a key's record on, with what follows it, or that of the end's
abbrev pub keyed : Taken → List ℕ → ℕ → (ℕ → Out) → Out
keyed t text at k = taken at t λ r q. paired at (shape_of r) (λ w. row text w at (k q)) (λ w. row text w at (end q))

-- a key was put out up to a cursor, with so many bytes put out, or the end was
abbrev pub key_to : Cursor → ℕ → Result Before Verdict
key_to c n = Ok (Before.Key c n)

abbrev pub end_to : Cursor → ℕ → Result Before Verdict
end_to c n = Ok (Before.End c n)

-- a key was put out, and the writing goes on with what follows, whatever that is; or the end was; or it is refused
abbrev pub Paired : Result Before Verdict → List ℕ → Taken → List ℕ → ℕ → ℕ → List ℕ → Type 0
Paired (Ok (Before.Key c n)) o t text at count out =
    ((k : ℕ → Out) → pour (keyed t text at k) count out ≡ pour (k c.at) n o) × (n ≤ count + longest) × ((r : Record) × (t ≡ taken_to r c))
Paired (Ok (Before.End c n)) o t text at count out =
    ((k : ℕ → Out) → pour (keyed t text at k) count out ≡ poured (went_to c n) o) × (n ≤ count + longest) × ((r : Record) × (t ≡ taken_to r c))
Paired (Err r) o t text at count out = (k : ℕ → Out) → pour (keyed t text at k) count out ≡ poured (Err r) o

-- values without a key come to pairs where no value's record begins
abbrev pub due_at : Bool → Rest → Rest
due_at v Nothing = Nothing
due_at v Pairs = Pairs
due_at v Dense = pick v Dense Pairs
due_at v (Values n) = Values n

-- how many values are to come at least, each of which takes bytes of the image
abbrev pub owed : Rest → ℕ
owed Nothing = 0
owed Pairs = 0
owed Dense = 0
owed (Values n) = n
