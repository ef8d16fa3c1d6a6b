-- What the readings and the cut came to before a refusal had a place: the definitions of then, with 0 for the bytes used and for the place. They stand here to
-- show that nothing but places has moved (docs/CHANGES.md, request 5), and nothing else is said by them.
use Rattle.std.specs.Prelude.{ℕ, List, ◌++◌, length, get_or, leb, ltb, eqb}
use Rattle.wire.specs.Choice.{pick}
use Rattle.wire.specs.Limit as limit
use Rattle.wire.specs.Text.{inside_of}
use Rattle.image.specs.Due.{Due, on_end}
use Rattle.image.specs.Whole.{Whole, bytes, accepted}
use Rattle.image.specs.Whole as now
use Rattle.amf0.specs.Reading.{top_value}
use Rattle.amf0.specs.Span.{Span, span_at, in_span, one_value}
use Rattle.lso.specs.Reading as lso
use Rattle.packet.specs.Reading.{packet_at}
use Rattle.packet.specs.Entry.{Cut, found, stops, cut_of, no_entry, span, Listed}
use Rattle.packet.specs.Entry as cut

abbrev pub refused : ℕ → Whole
refused a = now.refused a 0

-- a result without its place
abbrev pub unplaced : Whole → Whole
unplaced w = pick (eqb w.reading.answer 0) w (refused w.reading.answer)

-- ---- the whole readings

abbrev pub settled : Due → ℕ → Whole
settled d room = pick (leb (length (bytes d)) room) (on_end d (λ n. accepted n (bytes d)) λ a p. refused a) (refused 4)

abbrev pub limited : List ℕ → Whole → Whole
limited s w = pick (leb (length s) limit.bytes) w (refused 1)

abbrev pub all : List ℕ → Whole → Whole
all s w = pick (eqb w.reading.answer 0) (pick (leb (length s) w.reading.used) w (refused 3)) w

abbrev pub value_of : List ℕ → ℕ → Whole
value_of s room = limited s (settled (top_value s 0) room)

abbrev pub halted : ℕ → Whole → Whole
halted a w = pick (eqb a 2) w (pick (eqb a 3) w (refused a))

abbrev pub settle_file : List ℕ → lso.Body → ℕ → Whole
settle_file h b room =
    let w = accepted b.at (h ++ lso.kept b.elements) in
    pick (leb (length (h ++ (lso.kept b.elements ++ bytes b.tried))) room) (on_end b.tried (λ n. w) (λ a p. halted a w)) (refused 4)

abbrev pub incomplete_file : List ℕ → ℕ → Whole
incomplete_file s room =
    limited s (on_end (lso.header_at s) (λ p. settle_file (bytes (lso.header_at s)) (lso.body_at s (length s) p) room) (λ a p. refused a))

abbrev pub whole_file : List ℕ → ℕ → Whole
whole_file s room = all s (incomplete_file s room)

abbrev pub incomplete_packet : List ℕ → ℕ → Whole
incomplete_packet s room = limited s (settled (packet_at s) room)

abbrev pub whole_packet : List ℕ → ℕ → Whole
whole_packet s room = all s (incomplete_packet s room)

-- ---- a value in a span, and the entries

abbrev pub judge : ℕ → Whole → Whole
judge n w =
    pick (eqb w.reading.answer 0)
    (pick (leb n w.reading.used) w (refused 9))
    (pick (eqb w.reading.answer 2) (refused 9) (pick (eqb w.reading.answer 3) (refused 9) w))

abbrev pub answer_of : List ℕ → Span → ℕ → Whole
answer_of s p room = judge p.length (settled (in_span one_value s p) room)

abbrev pub span_of : List ℕ → ℕ → ℕ → ℕ → Whole
span_of s place n room = limited s (pick (inside_of s place n) (answer_of s (span_at place n) room) (refused 8))

abbrev pub entry_in : List ℕ → Cut → ℕ → ℕ → Whole
entry_in s (stops a p) number room = refused a
entry_in s (found es n) number room = pick (ltb number (length es)) (answer_of s (span (get_or es number no_entry)) room) (refused 8)

abbrev pub entry_of : List ℕ → ℕ → ℕ → Whole
entry_of s number room = entry_in s (cut_of s) number room

-- ---- the cut

abbrev pub uncut : ℕ → Listed
uncut a = cut.uncut a 0

-- what a cut comes to without its place
abbrev pub list_unplaced : Listed → Listed
list_unplaced w = pick (eqb w.cutting.answer 0) w (uncut w.cutting.answer)

abbrev pub listed : Cut → ℕ → Listed
listed (found es z) room =
    pick (leb (length es) room) (record { cutting = record { answer = 0; used = z; count = length es }; entries = es }) (uncut 4)
listed (stops a p) room = uncut a

abbrev pub list_of : List ℕ → ℕ → Listed
list_of s room = listed (cut_of s) room
