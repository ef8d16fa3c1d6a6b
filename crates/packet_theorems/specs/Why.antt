-- What the packet calls can come to in a room, and when: a room too small refuses before any other reason but the limit. What stands in the input, which
-- field refuses it, and into what it is cut, is said by the grammars; that a room is too small, by the records that the definitions find. A refusal has the place
-- of the field, or of the record, that is its reason.
use Rattle.std.specs.Prelude.{ℕ, ◌+◌, ◌≤◌, ◌<◌, ◌≡◌, List, ◌++◌, length, get_or, Ok}
use Rattle.wire.specs.Limit as limit
use Rattle.image.specs.Due.{Lacks}
use Rattle.image.specs.Whole.{Whole, bytes, accepted, refused}
use Rattle.amf0.specs.Span.{span_at}
use Rattle.amf0_theorems.specs.Spans.{LeftOver, ComesValue}
use Rattle.packet.specs.declared.head.Entry.{Entry}
use Rattle.packet.specs.Packet.{Packet, Encoded}
use Rattle.packet.specs.Shown.{Within}
use Rattle.packet.specs.Reading.{packet_at}
use Rattle.packet.specs.Entry.{Cut, no_entry as zero_entry, span, Listed, uncut, Found}
use Rattle.packet_theorems.specs.Cuts.{CutInto}
use Rattle.packet_theorems.specs.Refusal.{whole, RefusedPacket, RefusedCut}
use Rattle.wire.specs.Answer.{denied}

-- ---- the whole readings

-- the bytes x are a packet whose values are not too deep
pub record Readable (x : List ℕ) : Type 0 where
  pub packet : Packet
  pub encoded : Encoded packet x
  pub within : Within limit.levels packet

-- the incomplete reading
pub data Comes (s : List ℕ) (room : ℕ) : Whole → Type 0 where
  over_limit : limit.bytes < length s → Comes s room (refused 1 0)
  no_room : {p : ℕ} → length s ≤ limit.bytes → Lacks (packet_at s) 0 room p → Comes s room (refused 4 p)
  not_read : {a p : ℕ} → length s ≤ limit.bytes → length (bytes (packet_at s)) ≤ room → RefusedPacket whole s a p → Comes s room (refused a p)
  read : {x : List ℕ} (r : List ℕ) → length s ≤ limit.bytes → length (bytes (packet_at s)) ≤ room → s ≡ x ++ r → Readable x
      → Comes s room (accepted (length x) (bytes (packet_at s)))

-- the reading to the last byte
pub data ComesWhole (s : List ℕ) (room : ℕ) : Whole → Type 0 where
  over_limit : limit.bytes < length s → ComesWhole s room (refused 1 0)
  no_room : {p : ℕ} → length s ≤ limit.bytes → Lacks (packet_at s) 0 room p → ComesWhole s room (refused 4 p)
  not_read : {a p : ℕ} → length s ≤ limit.bytes → length (bytes (packet_at s)) ≤ room → RefusedPacket whole s a p → ComesWhole s room (refused a p)
  left_over : {a p : ℕ} → length s ≤ limit.bytes → length (bytes (packet_at s)) ≤ room → LeftOver Readable s a p → ComesWhole s room (refused a p)
  read : length s ≤ limit.bytes → length (bytes (packet_at s)) ≤ room → Readable s → ComesWhole s room (accepted (length s) (bytes (packet_at s)))

-- ---- the cut

-- the cut into a list
pub data ComesList (s : List ℕ) (room : ℕ) : Listed → Type 0 where
  not_cut : {a p : ℕ} → RefusedCut s a p → ComesList s room (uncut a p)
  too_short : {es : List Entry} → CutInto s es → room < length es → ComesList s room (uncut 4 0)
  cut : {es : List Entry} → CutInto s es → length es ≤ room
      → ComesList s room (record { cutting = record { answer = 0; used = length s; count = length es }; entries = es })

-- the entry with a number
pub data ComesNth (s : List ℕ) (number : ℕ) : Found → Type 0 where
  not_cut : {a p : ℕ} → RefusedCut s a p → ComesNth s number (denied a p)
  no_entry : {es : List Entry} → CutInto s es → length es ≤ number → ComesNth s number (denied 8 0)
  is : {es : List Entry} → CutInto s es → number < length es → ComesNth s number (Ok (get_or es number zero_entry))

-- the answer and the place of a cut, as those of a reading that makes these bytes
abbrev pub answered : Cut → (image : List ℕ) → Whole
answered (Cut.found es n) image = accepted n image
answered (Cut.stops a p) image = refused a p

-- ---- one value

-- the reading of entry `number`
pub data ComesEntry (s : List ℕ) (number room : ℕ) : Whole → Type 0 where
  not_cut : {a p : ℕ} → RefusedCut s a p → ComesEntry s number room (refused a p)
  no_entry : {es : List Entry} → CutInto s es → length es ≤ number → ComesEntry s number room (refused 8 0)
  found : {es : List Entry} {w : Whole} → CutInto s es → number < length es → ComesValue s (span (get_or es number zero_entry)) room w → ComesEntry s number room w

-- the reading of n bytes from a place on
pub data ComesSpan (s : List ℕ) (place n room : ℕ) : Whole → Type 0 where
  over_limit : limit.bytes < length s → ComesSpan s place n room (refused 1 0)
  outside : length s ≤ limit.bytes → length s < place + n → ComesSpan s place n room (refused 8 0)
  inside : {w : Whole} → length s ≤ limit.bytes → place + n ≤ length s → ComesValue s (span_at place n) room w → ComesSpan s place n room w
