-- What a reading says that it made is as many bytes as its records have.
use Rattle.std.specs.Prelude.{◌+◌, ◌≡◌, ◌++◌}
use Rattle.wire.proofs.Kit.{ℕ, refl, Bool, List, [], length, leb, ltb, eqb}
use Rattle.wire.specs.Choice.{pick}
use Rattle.wire.specs.Limit as limit
use Rattle.wire.specs.Text.{inside_of}
use Rattle.wire.proofs.Laws.{picked}
use Rattle.image.specs.Record.{bytes_of, size}
use Rattle.image.specs.Due.{Due, end, stop, seen, due}
use Rattle.image.specs.Whole.{Whole, bytes, accepted, refused, in_room, settled, all}
use Rattle.amf0.specs.Reading.{read_of}
use Rattle.amf0.specs.Span.{Span, judge}
use Rattle.lso.specs.Reading as lso
use Rattle.lso.specs.Reading.{Body}
use Rattle.packet.specs.Reading as packet
use Rattle.packet.specs.Entry.{Cut, found, stops, cut_of, entry_in, read_span, read_entry}
use Rattle.image.proofs.Settle.{on_case, all_cases}

-- it counts the bytes that it has
pub record Counts (w : Whole) : Type 0 where
  pub same : w.reading.made ≡ length w.bytes

-- a refusal has no bytes
none : (a p : ℕ) → Counts (refused a p)
none a p = record { same = refl }

-- a choice of two
either : (t : Bool) (a b : Whole) → Counts a → Counts b → Counts (pick t a b)
either t a b f g = picked Counts t a b (λ e. f) (λ e. g)

-- a reading in a room
room_counts : (room : ℕ) (b : List ℕ) (d : Due) (f : ℕ → List ℕ → Whole) (g : ℕ → ℕ → Whole) → ((n : ℕ) (c : List ℕ) → Counts (f n c))
    → ((a p : ℕ) → Counts (g a p)) → Counts (in_room room b d f g)
unfolding in_room
room_counts room b (end n) f g h i = h n b
room_counts room b (stop a p) f g h i = i a p
room_counts room b (seen fact d) f g h i = room_counts room b d f g h i
room_counts room b (due r p d) f g h i = either (leb (length b + size r) room) _ _ (room_counts room (b ++ bytes_of r) d f g h i) (none 4 p)

settled_counts : (d : Due) (room : ℕ) → Counts (settled d room)
settled_counts d room = room_counts room [] d accepted refused (λ n c. record { same = refl }) none

-- to the end of an input
all_counts : (s : List ℕ) (w : Whole) → Counts w → Counts (all s w)
all_counts s w h = all_cases s w Counts (λ a. h) (λ a l. none 3 _) (λ a l. h)

-- a judgement
judge_counts : (p : Span) (w : Whole) → Counts w → Counts (judge p w)
judge_counts p w h =
    either (eqb w.reading.answer 0) _ _ (either (leb p.length w.reading.used) _ _ h (none 9 _))
    (either (eqb w.reading.answer 2) _ _ (none 9 _) (either (eqb w.reading.answer 3) _ _ (none 9 _) h))

-- Each reading counts the bytes that it has: of a value,
pub value_counts : (s : List ℕ) (room : ℕ) → Counts (read_of s room)
value_counts s room = either (leb (length s) limit.bytes) _ _ (settled_counts _ room) (none 1 0)

-- of the beginning of an input, as a packet,
pub packet_incomplete_counts : (s : List ℕ) (room : ℕ) → Counts (packet.incomplete_of s room)
unfolding packet.incomplete_of
packet_incomplete_counts s room = either (leb (length s) limit.bytes) _ _ (settled_counts _ room) (none 1 0)

-- of a packet,
pub packet_counts : (s : List ℕ) (room : ℕ) → Counts (packet.whole_of s room)
unfolding packet.whole_of
packet_counts s room = all_counts s _ (packet_incomplete_counts s room)

-- of a part of a packet,
pub span_counts : (s : List ℕ) (place n room : ℕ) → Counts (read_span s place n room)
unfolding read_span
span_counts s place n room =
    either (leb (length s) limit.bytes) _ _ (either (inside_of s place n) _ _ (judge_counts _ _ (settled_counts _ room)) (none 8 0)) (none 1 0)

-- of an entry,
pub entry_counts : (s : List ℕ) (number room : ℕ) → Counts (read_entry s number room)
unfolding read_entry
entry_counts s number room = go (cut_of s)
  where
    go : (x : Cut) → Counts (entry_in s x number room)
    go (stops a p) = none a p
    go (found es n) = either (ltb number (length es)) _ _ (judge_counts _ _ (settled_counts _ room)) (none 8 0)

-- of the beginning of an input, as a file,
pub file_incomplete_counts : (s : List ℕ) (room : ℕ) → Counts (lso.incomplete_of s room)
unfolding lso.incomplete_of
file_incomplete_counts s room =
    either (leb (length s) limit.bytes) _ _
    (on_case Counts (lso.header_at s) _ _
    (λ p e.
    let b : Body = lso.body_at s (length s) p in
    let w : Counts (accepted b.at (bytes (lso.header_at s) ++ lso.kept b.elements)) = record { same = refl } in
    room_counts room [] (lso.ever_due s p) accepted _ (λ n c. record { same = refl }) (λ a q. either (eqb a 2) _ _ w (either (eqb a 3) _ _ w (none a q))))
    (λ a p e. none a p)) (none 1 0)

-- and of a file.
pub file_counts : (s : List ℕ) (room : ℕ) → Counts (lso.whole_of s room)
unfolding lso.whole_of
file_counts s room = all_counts s _ (file_incomplete_counts s room)
