-- What the reader's steps come to on an image: all that falls due in a body is carried out, and the last is dropped where it gives 2 or 3. What the writer's
-- steps put out.
use Rattle.std.specs.Prelude.{ℕ, List, length, leb, eqb, ◌+◌, Ok, Err}
use Rattle.wire.specs.Answer.{denied}
use Rattle.wire.specs.Choice.{pick}
use Rattle.wire.specs.Limit as limit
use Rattle.wire.specs.Field.{to}
use Rattle.image.specs.Kind as kind
use Rattle.image.specs.Due.{Step, went_to, Ran, ran, run}
use Rattle.image.specs.Out.{Out, end, row}
use Rattle.amf0.specs.Writing.{asked}
use Rattle.lso.specs.Reading.{header_at, Body, body_at, kept, due_in}
use Rattle.lso.specs.Writing.{keying}

-- an element that gave 2 or 3 ends the body before it
abbrev pub dropped : Step → List ℕ → ℕ → ℕ → Ran
dropped (Ok x) image at made = ran (Ok x) image
dropped (Err r) image at made =
    pick (eqb r.answer 2) (ran (went_to (to at) made) image) (pick (eqb r.answer 3) (ran (went_to (to at) made) image) (ran (Err r) image))

-- a body carried out
unfoldable pub run_body : Body → ℕ → List ℕ → Ran
run_body b made image =
    let x = run (due_in b.elements b.tried) made image in
    dropped x.step x.image b.at (made + length (kept b.elements))

abbrev pub bodied : Step → List ℕ → List ℕ → Ran
bodied (Ok x) image s = run_body (body_at s (length s) x.0.at) x.1 image
bodied (Err r) image s = ran (Err r) image

unfoldable pub run_file : List ℕ → List ℕ → Ran
run_file s image =
    pick (leb (length s) limit.bytes) (bodied (run (header_at s) 0 image).step (run (header_at s) 0 image).image s) (ran (denied 1 0) image)

-- ---- writing

-- the key of an element
abbrev pub key_of : List ℕ → List ℕ → ℕ → Out
key_of image text at = asked image kind.key at λ key q. row text (keying key.a.number key.b.number) at (end q)
