-- Demand 3, sentence by sentence, over what the public calls come to.
use Rattle.std.specs.Prelude.{◌≤◌, ◌<◌, ◌≡◌, ◌≢◌, ◌∷◌}
use Rattle.wire.proofs.Kit.{ℕ, refl, sym, ◌∙◌, List, [], append-nil, true, false, arith, length, get_or, lt-ltb, le-ltb}
use Rattle.wire.proofs.Kit.{map, length-take, length-drop}
use Rattle.wire.specs.Number.{Bytes}
use Rattle.wire.specs.Field.{bytes_at}
use Rattle.wire.proofs.Stands.{Here}
use Rattle.image.specs.Whole.{refused}
use Rattle.amf0.specs.Reading.{read_of}
use Rattle.packet.specs.declared.head.Entry.{Entry}
use Rattle.packet.specs.Reading.{whole_of}
use Rattle.packet.specs.Entry.{found, cut_of, no_entry, span_of, read_entry, span}
use Rattle.packet.specs.Change.{known, known_spans, Keeps, Agrees}
use Rattle.packet_theorems.specs.Cuts.{Exact}
use Rattle.packet_theorems.proofs.Frame.{Text, known_beside, unknown_beside, known_at, cut_read}
use Rattle.packet_theorems.proofs.Taken.{whole_taken}
use Rattle.packet_theorems.proofs.Whole.{packet_told, packet_shallow}
use Rattle.packet_theorems.proofs.Agree.{agree}
use Rattle.packet_theorems.proofs.CutExactly.{exactly_declares}
use Rattle.amf0.specs.Span.{Span, Changed, Judged}
use Rattle.amf0_theorems.proofs.Spans.{value_judged, lies_within, own_same, others_same, bytes_same}

-- "Take a packet that the cut accepts. Change bytes inside any of its values with a known length and nothing else."
module _ (s t : List ℕ) (es : List Entry) (n : ℕ) (bs : Bytes s) (cut : cut_of s ≡ found es n) (change : Changed (known_spans s es) s t) where
  -- Every flag, every place and length of a text, and every span is as before: the changed packet is cut into the same entries.
  pub same_cut : cut_of t ≡ cut_of s
  same_cut = (cut_read s es n cut).again bs t change ∙ sym cut

  -- a change inside values of a known length is one inside values
  inside : Changed (map span es) s t
  inside = record { long = change.long; same = λ i b. change.same i (known_beside s i es b) }

  -- Every name and address is as before: the texts of an entry, a header's name or a message's target and response, are the same bytes.
  pub same_first : (k : ℕ) → k < length es → let e = get_or es k no_entry in bytes_at e.length1 t e.place1 ≡ bytes_at e.length1 s e.place1
  same_first k h = own_same no_entry (cut_read s es n cut).lies inside k _ _ h λ i. Text.first

  pub same_second : (k : ℕ) → k < length es → let e = get_or es k no_entry in bytes_at e.length2 t e.place2 ≡ bytes_at e.length2 s e.place2
  same_second k h = own_same no_entry (cut_read s es n cut).lies inside k _ _ h λ i. Text.second

  -- Read by entry with the same room, every untouched value answers as before.
  pub untouched : (k room : ℕ) → span_of t (get_or es k no_entry) ≡ span_of s (get_or es k no_entry) → read_entry t k room ≡ read_entry s k room
  unfolding read_entry
  untouched k room same = rw (same_cut, cut, same)

  -- So does every value whose length is not known: its bytes stay.
  pub unknown_same : (k room : ℕ) → k < length es → known s (get_or es k no_entry) ≡ false → read_entry t k room ≡ read_entry s k room
  unknown_same k room h u =
      let p : Span = span (get_or es k no_entry) in
      let long : length (span_of t (get_or es k no_entry)) ≡ length (span_of s (get_or es k no_entry)) = simp (length-take, length-drop, change.long) in
      untouched k room (bytes_same s t p.place p.length long λ i a b. change.same i (unknown_beside s i k (cut_read s es n cut).lies h u a b))

  -- A changed value answers as the value reader does on those bytes alone, places shifted: refusals for room or depth stand, and anything malformed, short
  -- or not used to the end is damaged.
  pub changed : (k room : ℕ) → k < length es → let e = get_or es k no_entry in Judged e.place (span_of t e) (read_of (span_of t e) room) (read_entry t k room)
  unfolding read_entry
  changed k room h =
      let c = cut_read s es n cut in
      let e = (lies_within no_entry k c.lies h).1 in
      rw (same_cut, cut, lt-ltb k (length es) h)
      (value_judged t (span (get_or es k no_entry)) room (omega (arith, c.small, change.long)) (omega (arith, c.all, change.long)))

  -- No entry has another number.
  pub past : (k room : ℕ) → length es ≤ k → read_entry t k room ≡ refused 8 0
  unfolding read_entry
  past k room h = rw (same_cut, cut, le-ltb k (length es) h)

-- Where bytes inside one value with a known length alone are changed, one marker or all of it, every other entry answers as before.
pub neighbours : (s t : List ℕ) (es : List Entry) (n j : ℕ) → Bytes s → cut_of s ≡ found es n → j < length es → known s (get_or es j no_entry) ≡ true
    → Changed (span (get_or es j no_entry) ∷ []) s t → (k room : ℕ) → k < length es → k ≢ j → read_entry t k room ≡ read_entry s k room
neighbours s t es n j bs cut h told change k room i other =
    let one : Changed (known_spans s es) s t = record { long = change.long; same = λ x b. change.same x (known_at s x es j b h told) } in
    untouched s t es n bs cut one k room (others_same no_entry (cut_read s es n cut).lies j h change k i other)

-- Where the whole-packet reader accepts a packet whose lengths are exact or not known, entry reading in that room gives the same values.
pub agreement : (s : List ℕ) (room : ℕ) → Bytes s → Exact s → (whole_of s room).reading.answer ≡ 0 → Agrees s room
agreement s room bs x e =
    let h : Here s 0 s [] = record { same = sym (append-nil s) } in
    let d = (exactly_declares s).0 x in
    let deep = packet_shallow s [] d.encoded h bs (length s) (whole_taken s room e).ends in
    agree s room bs ((packet_told s [] d.encoded h deep).exact d.exact refl) e

-- Demand 3 as a whole.
pub record Demand3 : Type 0 where
  -- Take a packet that the cut accepts. Change bytes inside any of its values with a known length and nothing else.
  pub kept : (s t : List ℕ) (es : List Entry) (n : ℕ) → Bytes s → cut_of s ≡ found es n → Changed (known_spans s es) s t → Keeps s t es
  -- Where the whole-packet reader accepts a packet whose lengths are exact or not known, entry reading in that room gives the same values.
  pub agreed : (s : List ℕ) (room : ℕ) → Bytes s → Exact s → (whole_of s room).reading.answer ≡ 0 → Agrees s room

pub demand3 : Demand3
demand3 =
    record {
      kept = λ s t es n bs cut change.
          record {
            cut = same_cut s t es n bs cut change;
            first = same_first s t es n bs cut change;
            second = same_second s t es n bs cut change;
            untouched = untouched s t es n bs cut change;
            changed = changed s t es n bs cut change;
            past = past s t es n bs cut change;
          };
      agreed = agreement;
    }
