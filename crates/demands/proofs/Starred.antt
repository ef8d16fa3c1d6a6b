-- The starred examples of the rule "Examples" (docs/DEMANDS.md), of the calls.
use Rattle.std.specs.Prelude.{◌≡◌, ◌∷◌}
use Rattle.wire.proofs.Kit.{ℕ, ap, ◌∙◌, List, [], map, length, take}
use Rattle.image.specs.declared.reading.Reading.{Reading}
use Rattle.image.specs.declared.writing.Writing.{Writing}
use Rattle.image.specs.Whole.{Whole}
use Rattle.demands.specs.Examples.{Example, table, found, starred}
use Rattle.demands.specs.Forms.{Reader, made, put}
use Rattle.demands.proofs.Calls.{ParseSingleElement, LsoParse, LsoParseIncomplete, WriteValue}
use Rattle.demands.proofs.Told.{Reads, value_reads, file_reads, file_incomplete_reads, value_puts}
use Rattle.demands.proofs.Laws.{made_is, put_is}

-- a call on s in a room of 24 bytes comes to w
abbrev pub Gives : Reader → List ℕ → Whole → Type 0
Gives Call s w = (i : List ℕ) (r : Reading) (x : List ℕ) → Call s i r x → length i ≡ 24 → made r x ≡ w

-- what a line says of the calls
abbrev pub Holds : Example → Type 0
Holds (Example.value s w) = Gives ParseSingleElement s w
Holds (Example.rewritten s w) = (i o : List ℕ) (r : Reading) (v : Writing) (x y : List ℕ) → ParseSingleElement s i r x → length i ≡ 24
    → WriteValue (take r.made x) s o v y → length o ≡ 24 → put v y ≡ w
Holds (Example.file s w v) = Gives LsoParse s w × Gives LsoParseIncomplete s v

-- what all lines say
abbrev pub AllHold : List Example → Type 0
AllHold [] = Unit {0}
AllHold (e ∷ es) = Holds e × AllHold es

-- a call that comes to w in that room
gives : {Call : Reader} {of : List ℕ → ℕ → Whole} → Reads Call of → (s : List ℕ) (w : Whole) → of s 24 ≡ w → Gives Call s w
gives {of} k s w e i r x c l = made_is k s i r x c ∙ (ap (of s) l ∙ e)

-- a line that the definitions come to holds of the calls
told : (e : Example) → found e ≡ e → Holds e
told (Example.value s w) p = gives value_reads s w cc
told (Example.rewritten s w) p = λ i o r v x y c l d m.
    put_is value_puts (take r.made x) s o v y d ∙ rw (ap (λ (q : Whole). q.bytes) (made_is value_reads s i r x c), l, m) cc
told (Example.file s w v) p = (gives file_reads s w cc, gives file_incomplete_reads s v cc)

-- so do all lines
each : (es : List Example) → map found es ≡ es → AllHold es
each [] p = tt
each (e ∷ es) p = (told e cc, each es cc)

-- Every starred example holds.
pub examples : AllHold table
examples = each table starred
