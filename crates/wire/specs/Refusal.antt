-- A refusal as contracts see it: by the number of its answer.
use Rattle.std.specs.Prelude.{◌≡◌, refl}
use Rattle.wire.specs.declared.answer.Answer.{Answer}
use Rattle.wire.specs.declared.answer.Answer.TheVariants.{OverLimit, NotWhole, NotRight, NoRoom, TooDeep, NoTree, OtherVersion, NoEntry, Damaged}
use Rattle.wire.specs.declared.answer.Refusal.TheInside.{Inside}
use Rattle.wire.specs.Answer.{Verdict, verdict, number_of, answer_of}

abbrev pub seen : Inside → Verdict
seen r = verdict (number_of r.answer) r.place

abbrev pub hidden : Verdict → Inside
hidden r = record { answer = answer_of r.answer; place = r.place }

same_again : (a : Answer) → answer_of (number_of a) ≡ a
same_again OverLimit = refl
same_again NotWhole = refl
same_again NotRight = refl
same_again NoRoom = refl
same_again TooDeep = refl
same_again NoTree = refl
same_again OtherVersion = refl
same_again NoEntry = refl
same_again Damaged = refl

pub hidden_seen : (r : Inside) → hidden (seen r) ≡ r
hidden_seen r = λ i. record { answer = same_again r.answer i; place = r.place }
