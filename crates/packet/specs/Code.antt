-- What the steps of the code come to.
use Rattle.std.specs.Prelude.{ℕ, suc, ◌+◌, ◌-◌, ◌≡◌, List, [], ◌∷◌, Bool, true, false, length, drop, leb, ltb, eqb, Option, None, Some, Result, Ok, Err}
use Rattle.std.proofs.lemmas.List.Edits.{sets}
use Rattle.wire.specs.Answer.{Verdict, denied}
use Rattle.wire.specs.Choice.{pick}
use Rattle.wire.specs.Limit as limit
use Rattle.wire.specs.Number.{digits}
use Rattle.wire.specs.Field.{u16_at, got}
use Rattle.wire.specs.declared.cursor.Cursor.{Cursor}
use Rattle.image.specs.Due.{Due, stop, Step, went_to, Ran, ran, run}
use Rattle.packet.specs.declared.head.Entry.{Entry}
use Rattle.packet.specs.declared.entry.Cutting.{Cutting}
use Rattle.packet.specs.declared.walk.Walk.{Walk}
use Rattle.packet.specs.declared.walk.Walk.TheVariants as W
use Rattle.packet.specs.Reading.{entries_at, packet_at}
use Rattle.packet.specs.Entry.{reach, Trail, reached, stopped, ◌thence◌, walk, end_at, messages_from, uncut, Ending, done, halt}
use Rattle.image.specs.Kind as kind

-- ---- the whole reading

abbrev pub packet_in : List ℕ → Due
packet_in s = pick (leb (length s) limit.bytes) (packet_at s) (stop 1 0)

-- the messages' count is set in the packet's record, and then they are read
abbrev pub run_messages : List ℕ → ℕ → ℕ → List ℕ → Ran
run_messages s at made image =
    got (λ a p. ran (denied a p) image) (u16_at s at) λ m p. run (entries_at kind.message s m p) made (sets image 3 (digits 2 m))

-- the step of the reading, and its image where it goes on; where it is refused the record may yet lack its count
pub record Packed (x : Step) (after : List ℕ) (s image : List ℕ) : Type 0 where
  pub step : x ≡ (run (packet_in s) 0 image).step
  pub kept : length after ≡ length image
  pub laid : (c : Cursor) (m : ℕ) → x ≡ went_to c m → after ≡ (run (packet_in s) 0 image).image

-- ---- the cut

-- what comes behind the entries of a kind: the messages, or the end
abbrev pub behind : ℕ → List ℕ → ℕ → Trail
behind k s z = pick (eqb k kind.header) (messages_from s z) (end_at s z)

-- what is left of a walk
abbrev pub rest_of : List ℕ → Walk → Trail
rest_of s (W.At kind more c) = walk kind s (suc more) c.at thence behind kind s
rest_of s (W.End z) = reached [] z
rest_of s (W.Stop r) = stopped r.answer r.place

abbrev pub goes_on : Walk → Bool
goes_on (W.At kind more c) = true
goes_on (W.End z) = false
goes_on (W.Stop r) = false

-- what falls from entry to entry
abbrev pub left_of : List ℕ → Walk → ℕ
left_of s (W.At kind more c) = suc (length s - c.at)
left_of s (W.End z) = 0
left_of s (W.Stop r) = 0

-- a trail without its first n entries
abbrev pub past : ℕ → Trail → Trail
past n t = record { entries = drop n t.entries; ending = t.ending }

-- the first of entries
abbrev pub first_of : List Entry → Option Entry
first_of [] = None
first_of (e ∷ es) = Some e

-- where an ended walk ended, or what refused it
abbrev pub end_of : Ending → Result ℕ Verdict
end_of (done z) = Ok z
end_of (halt a p) = denied a p

abbrev pub refused_cut : (answer place : ℕ) → Cutting
refused_cut a p = (uncut a p).cutting

-- what a cut comes to where n entries of it are in the list and this trail is left
abbrev pub counted_in : Trail → ℕ → Cutting
counted_in t n =
    reach refused_cut t.ending λ z.
    pick (ltb 0 (length t.entries)) (refused_cut 4 0) (record { answer = 0; used = z; count = n })

-- ---- an entry

-- 2, 3 and unused bytes are damage; 4 and 5 stand
abbrev pub judged_of : Step → ℕ → ℕ → Step
judged_of (Err r) base n = pick (eqb r.answer 2) (denied 9 r.place) (pick (eqb r.answer 3) (denied 9 r.place) (Err r))
judged_of (Ok x) base n = pick (leb n x.0.at) (Ok x) (denied 9 (base + x.0.at))
