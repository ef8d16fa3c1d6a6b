-- The rule "Answers" (docs/DEMANDS.md): the number of each reason for which a call is refused, and a refusal as contracts see it.
use Rattle.std.specs.Prelude.{ℕ, ◌≡◌, ◌≢◌, eqb, Result, Err, MatchResult}
use Rattle.wire.specs.declared.answer.Answer.{Answer}
use Rattle.wire.specs.declared.answer.UnknownAnswer.{UnknownAnswer}
use Rattle.wire.specs.declared.answer.Answer.TheVariants.{OverLimit, NotWhole, NotRight, NoRoom, TooDeep, NoTree, OtherVersion, NoEntry, Damaged}
use Rattle.wire.specs.Choice.{pick}

abbrev pub number_of : Answer → ℕ
number_of OverLimit = 1
number_of NotWhole = 2
number_of NotRight = 3
number_of NoRoom = 4
number_of TooDeep = 5
number_of NoTree = 6
number_of OtherVersion = 7
number_of NoEntry = 8
number_of Damaged = 9

-- a number's answer, or the number that no answer has
abbrev pub Answers : ℕ → Result Answer UnknownAnswer → Type 0
Answers n r = MatchResult r (λ a. number_of a ≡ n) (λ e. (e.0 ≡ n) × ((a : Answer) → number_of a ≢ n))

-- the answer of a number
abbrev pub answer_of : ℕ → Answer
answer_of n =
    pick (eqb n 1) OverLimit
    (pick (eqb n 2) NotWhole
    (pick (eqb n 3) NotRight
    (pick (eqb n 4) NoRoom
    (pick (eqb n 5) TooDeep (pick (eqb n 6) NoTree (pick (eqb n 7) OtherVersion (pick (eqb n 8) NoEntry Damaged)))))))

-- refused with an answer, at a place
pub record Verdict : Type 0 where
  pub answer : ℕ
  pub place : ℕ

abbrev pub verdict : ℕ → ℕ → Verdict
verdict a p = record { answer = a; place = p }

abbrev pub denied : {A : Type 0} → ℕ → ℕ → Result A Verdict
denied a p = Err (verdict a p)
