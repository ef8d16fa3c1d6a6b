-- The cut of a packet by its declared lengths, with values measured where these are not known, and the reading of one entry: the rule "Reading by entry"
-- (docs/DEMANDS.md).
use Rattle.std.specs.Prelude.{ℕ, zero, suc, ◌+◌, ◌-◌, List, [], ◌∷◌, ◌++◌, length, get_or, replicate, leb, ltb, eqb, Result, Ok}
use Rattle.wire.specs.Answer.{Verdict, denied}
use Rattle.wire.specs.Choice.{pick}
use Rattle.wire.specs.Limit as limit
use Rattle.wire.specs.Text.{inside_of}
use Rattle.wire.specs.Field.{to, u16_at, got_to, got}
use Rattle.image.specs.Due.{on_end}
use Rattle.image.specs.Whole.{Whole, refused}
use Rattle.packet.specs.declared.head.Entry.{Entry}
use Rattle.packet.specs.declared.entry.Cutting.{Cutting}
use Rattle.packet.specs.Head.{Head, unknown, front_of, head_at, entry}
use Rattle.amf0.specs.Reading.{value_in}
use Rattle.amf0.specs.Span.{Span, span_at, held, answer_of, one_value}
use Rattle.image.specs.Kind as kind

-- ---- the cut

-- how a walk over entries ends: at a place, or stopped
pub data Ending : Type 0 where
  done : (next : ℕ) → Ending
  halt : (answer place : ℕ) → Ending

abbrev pub reach : {A : Type 0} → (ℕ → ℕ → A) → Ending → (ℕ → A) → A
reach stop (done n) k = k n
reach stop (halt a p) k = stop a p

-- what it comes to: the entries found, and how it ends
pub record Trail : Type 0 where
  pub entries : List Entry
  pub ending : Ending

abbrev pub reached : List Entry → ℕ → Trail
reached es n = record { entries = es; ending = done n }

abbrev pub stopped : ℕ → ℕ → Trail
stopped a p = record { entries = []; ending = halt a p }

-- entries before a trail
abbrev pub puts : List Entry → Trail → Trail
puts es t = record { entries = es ++ t.entries; ending = t.ending }

-- a trail, and then what goes on from where it ends
infixl 20 ◌thence◌
abbrev pub ◌thence◌ : Trail → (ℕ → Trail) → Trail
t thence k = puts t.entries (reach stopped t.ending k)

-- an entry with the length that its value was measured to have
abbrev pub measured : Entry → ℕ → Entry
measured e n = entry e.kind e.flag e.place1 e.length1 e.place2 e.length2 e.place n

-- an entry whose length is not known: its value is read where it stands, and what refuses that refuses the entry
abbrev pub measured_at : List ℕ → Entry → ℕ → Head
measured_at s e v = on_end (value_in 0 s v) (λ n. got_to (measured e (n - v)) (to n)) denied

-- an entry and the place behind its value; a length that exceeds the bytes left is refused, at the length field
unfoldable pub entry_at : ℕ → List ℕ → ℕ → Head
entry_at kind s at =
    got denied (head_at kind s at) λ e v.
    pick (eqb e.length unknown)
    (measured_at s e v)
    (pick (leb (v + e.length) (length s)) (got_to e (to (v + e.length))) (denied 2 (v - 4)))

-- n entries of a kind
unfoldable pub walk : ℕ → List ℕ → ℕ → ℕ → Trail
walk kind s zero at = reached [] at
walk kind s (suc n) at = got stopped (entry_at kind s at) λ e q. puts (e ∷ []) (walk kind s n q)

-- behind the last message the packet must end
abbrev pub end_at : List ℕ → ℕ → Trail
end_at s z = pick (leb (length s) z) (reached [] z) (stopped 3 z)

-- behind the headers: the messages, up to its last byte
abbrev pub messages_from : List ℕ → ℕ → Trail
messages_from s e = got stopped (u16_at s e) λ m f. walk kind.message s m f thence end_at s

-- a cut: the entries of a packet and the place behind it, or a refusal
pub data Cut : Type 0 where
  found : (entries : List Entry) (next : ℕ) → Cut
  stops : (answer place : ℕ) → Cut

-- the strict view of a trail: what stopped it refuses the cut
abbrev pub strict : Trail → Cut
strict t = reach stops t.ending (found t.entries)

-- the whole packet: a bad front is refused, then come headers and messages
unfoldable pub cut_of : List ℕ → Cut
cut_of s = got stops (front_of s) λ h q. strict (walk kind.header s h q thence messages_from s)

abbrev pub no_entry : Entry
no_entry = entry 0 0 0 0 0 0 0 0

-- ---- the list of entries

-- what a cut returns, and the entries that it leaves at the front of a list
pub record Listed : Type 0 where
  pub cutting : Cutting
  pub entries : List Entry

-- a refusal, by what stands at a place: that is returned in place of the packet's bytes
abbrev pub uncut : (answer place : ℕ) → Listed
uncut a p = record { cutting = record { answer = a; used = p; count = 0 }; entries = [] }

-- a list that is too short is 4, which has no place, where the cut itself is good
abbrev pub listed : Cut → ℕ → Listed
listed (found es z) room =
    pick (leb (length es) room) (record { cutting = record { answer = 0; used = z; count = length es }; entries = es }) (uncut 4 0)
listed (stops a p) room = uncut a p

-- what cutting a packet comes to, in a list of so many elements
unfoldable pub list_of : List ℕ → ℕ → Listed
list_of s room = listed (cut_of s) room

-- the list: the entries, and zeros to its end
abbrev pub filled : List Entry → ℕ → List Entry
filled es room = es ++ replicate (room - length es) no_entry

-- ---- one entry

-- an entry that was looked for, or a refusal
abbrev pub Found : Type 0
Found = Result Entry Verdict

-- the entry with a number, from 0, headers first
abbrev pub found_in : Cut → ℕ → Found
found_in (found es z) number = pick (ltb number (length es)) (Ok (get_or es number no_entry)) (denied 8 0)
found_in (stops a p) number = denied a p

-- the span of an entry's value, and its bytes
abbrev pub span : Entry → Span
span e = span_at e.place e.length

abbrev pub span_of : List ℕ → Entry → List ℕ
span_of s e = held s (span e)

-- the value reader on an entry's bytes alone, its places counted from the packet's start
abbrev pub value_of : List ℕ → Entry → ℕ → Whole
value_of s e room = answer_of one_value s (span e) room

-- the value in a part of a packet: 1 where the packet is over the limit, and 8 where the part is not inside it
unfoldable pub read_span : List ℕ → ℕ → ℕ → ℕ → Whole
read_span s place n room =
    pick (leb (length s) limit.bytes) (pick (inside_of s place n) (answer_of one_value s (span_at place n) room) (refused 8 0)) (refused 1 0)

abbrev pub entry_in : List ℕ → Cut → ℕ → ℕ → Whole
entry_in s (stops a p) number room = refused a p
entry_in s (found es n) number room = pick (ltb number (length es)) (value_of s (get_or es number no_entry) room) (refused 8 0)

-- what reading entry `number` comes to, in a room
unfoldable pub read_entry : List ℕ → ℕ → ℕ → Whole
read_entry s number room = entry_in s (cut_of s) number room
