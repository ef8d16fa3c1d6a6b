-- A proper beginning of a packet is refused with 2: a refusal with another answer stays where bytes are added behind.
use Rattle.std.specs.Prelude.{◌≤◌, ◌≡◌, ◌≢◌, ◌∷◌, ◌++◌}
use Rattle.wire.proofs.Kit.{ℕ, refl, sym, ap, ◌∙◌, List, [], append-nil, append_assoc, Bool, true, false, arith, length}
use Rattle.wire.proofs.Kit.{length-append, take-append-le, eqb, eqb-true, eqb-false}
use Rattle.wire.specs.Number.{Bytes}
use Rattle.wire.specs.Limit as limit
use Rattle.wire.proofs.Stands.{Here, bytes_left}
use Rattle.image.specs.Whole.{bytes, refused, all}
use Rattle.amf0_theorems.proofs.Leading.{longer}
use Rattle.amf0_theorems.proofs.Refused.{still_refused}
use Rattle.image.proofs.Settle.{either, on_stops}
use Rattle.amf0_theorems.specs.Refusal.{Field}
use Rattle.packet.specs.Packet.{Packet, Encoded}
use Rattle.packet.specs.Shown.{Within}
use Rattle.packet.specs.Reading.{packet_at, incomplete_of, whole_of}
use Rattle.packet.specs.Entry.{stops, cut_of, list_of, uncut, found_in, read_entry}
use Rattle.packet_theorems.specs.Cuts.{Slice, Cuts}
use Rattle.packet_theorems.specs.Refusal.{Way, whole, Sizes, cut, IsPacket, Seven, RefusedPacket, RefusedCut}
use Rattle.packet_theorems.proofs.Parts.{Part, goes, halts, goes_halts, Standing, Plain}
use Rattle.packet_theorems.proofs.Ways.{Goes, packet_by, TellsPacket, way_told, way_halts, way_ends, Carries, fields_carried}
use Rattle.packet_theorems.proofs.Taken.{roomy}
use Rattle.packet_theorems.proofs.PacketBytes.{encoded_bytes}
use Rattle.packet_theorems.proofs.CutExactly.{cuts_packet}
use Rattle.packet_theorems.proofs.Theorems.{incomplete_room_exact}
use Rattle.packet_theorems.proofs.Reasons.{readable_packet}
use Rattle.packet_theorems.proofs.Refusals.{cut_by, cut_goes, cut_refused_exactly, value_by, value_goes, packet_refused}
use Rattle.wire.specs.Answer.{denied}

-- ---- bytes added behind

version_more : (r q : List ℕ) → 1 ≤ length r → ((z : List ℕ) → r ≢ 3 ∷ z) → (z : List ℕ) → r ++ q ≢ 3 ∷ z
version_more [] q h t z e = omega arith
version_more (b ∷ r) q h t z e = t r cc

seven_more : {s : List ℕ} (q : List ℕ) → Seven s → Seven (s ++ q)
seven_more q Seven.begins = Seven.begins

-- values are gone over likewise where bytes are added behind a field that is there
abbrev More : Way → Type 0
More w = (r q : List ℕ) → 1 ≤ length r → Carries w w r (r ++ q)

whole_more : More whole
whole_more r q h = record { size = λ f z. z; stands = λ d y e. e; inside = λ d y f i. longer q h i; version = version_more r q h }

cut_more : More cut
cut_more r q h =
    record { size = sizes; stands = λ d y e. e; inside = λ d y f i. (i.0, longer q h i.1); version = version_more r q h }
  where
    sizes : (f : Field) → Sizes r f → Sizes (r ++ q) f
    sizes f Sizes.four = Sizes.four
    sizes f (Sizes.known i n) = Sizes.known (omega (arith, length-append r q)) (rw (take-append-le 4 r q i) n)

-- a refusal with another answer than 2 stays
refused_more : {w : Way} → More w → (q : List ℕ) {s : List ℕ} {a p : ℕ} → a ≢ 2 → RefusedPacket w s a p → RefusedPacket w (s ++ q) a p
refused_more more q n (RefusedPacket.version_3 v) = RefusedPacket.version_3 (seven_more q v)
refused_more more q n (RefusedPacket.field u) = RefusedPacket.field (still_refused q (λ r x f h l. fields_carried (more r q h) l) u n)

-- ---- a proper beginning

-- over the way: a proper beginning of what is gone over as a packet is refused with 2
module _ {w : Way} (more : More w) (s r : List ℕ) (bs : Bytes (s ++ r)) (step next : ℕ → ℕ → Part) (g : Goes w s step) (h : Goes w (s ++ r) next) where
  way_begun : 1 ≤ length r → IsPacket w (s ++ r) → (p : ℕ) × RefusedPacket w s 2 p
  way_begun l i = go (packet_by s step) (way_told s (bytes_left s r bs) step g)
    where
      whole_row : packet_by (s ++ r) next ≡ goes 0 (length (s ++ r))
      whole_row = way_ends (s ++ r) bs next h (s ++ r) [] i (record { same = sym (append-nil (s ++ r)) })

      -- no packet ends inside
      inner : {v n : ℕ} → Standing (Plain (IsPacket w)) s 0 v n → ⊥
      inner d = front d.stands
        where
          front : {v : ℕ} → Plain (IsPacket w) v d.row → ⊥
          front (Plain.plain x) =
              let here : Here (s ++ r) 0 d.row (d.rest ++ r) = record { same = ap (λ y. y ++ r) d.here.same ∙ append_assoc d.row d.rest r } in
              let e : goes 0 (length d.row) ≡ goes 0 (length (s ++ r)) = sym (way_ends (s ++ r) bs next h d.row (d.rest ++ r) x here) ∙ whole_row in
              let same : length d.row ≡ length (s ++ r) = cc in
              omega (arith, length-append s r, ap length d.here.same, length-append d.row d.rest)

      two : (a p : ℕ) (t : Bool) → eqb a 2 ≡ t → RefusedPacket w s a p → (p : ℕ) × RefusedPacket w s 2 p
      two a p true t q = (p, rw (eqb-true a 2 t) at q)
      two a p false t q = goes_halts (sym whole_row ∙ way_halts (s ++ r) bs next h (refused_more more r (eqb-false a 2 t) q))

      go : (o : Part) → TellsPacket w s o → (p : ℕ) × RefusedPacket w s 2 p
      go (goes v n) d = absurd (inner d)
      go (halts a p) q = two a p (eqb a 2) refl q

-- ---- the cut

module _ {hs ms : List Slice} (s r : List ℕ) (bs : Bytes (s ++ r)) (exact : Cuts hs ms (s ++ r)) (proper : 1 ≤ length r) (small : length s ≤ limit.bytes) where
  -- the cut of a proper beginning
  cut_begun : (p : ℕ) × (cut_of s ≡ stops 2 p)
  cut_begun =
      let ss = bytes_left s r bs in
      let packet = (cuts_packet (s ++ r)).1 (hs, ms, exact) in
      let b = way_begun cut_more s r bs (cut_by s) (cut_by (s ++ r)) (cut_goes s ss) (cut_goes (s ++ r) bs) proper packet in
      (b.0, (cut_refused_exactly s 2 b.0 ss).1 (RefusedCut.not_cut small b.1))

  -- A proper beginning of a packet that its lengths cut exactly is, within the limit, refused with 2 by `cut`, whatever the list.
  pub cut_beginning : (room : ℕ) → (p : ℕ) × (list_of s room ≡ uncut 2 p)
  unfolding list_of
  cut_beginning room = (cut_begun.0, rw cut_begun.1)

  -- So it is by `nth`.
  pub nth_beginning : (number : ℕ) → (p : ℕ) × (found_in (cut_of s) number ≡ denied 2 p)
  nth_beginning number = (cut_begun.0, rw cut_begun.1)

  -- And by `parse_entry`.
  pub entry_beginning : (number room : ℕ) → (p : ℕ) × (read_entry s number room ≡ refused 2 p)
  unfolding read_entry
  entry_beginning number room = (cut_begun.0, rw cut_begun.1)

-- ---- the whole reading, over what is proved of values

module _ (p : Packet) (s r : List ℕ) (room : ℕ) (packet : Encoded p (s ++ r)) (deep : Within limit.levels p) (proper : 1 ≤ length r)
    (small : length s ≤ limit.bytes) where
  -- A proper beginning of a packet whose values are not too deep is, within the limit and where it is not refused for room, refused with 2.
  pub incomplete_beginning : (incomplete_of s room).reading.answer ≢ 4 → (p : ℕ) × (incomplete_of s room ≡ refused 2 p)
  incomplete_beginning n =
      let bs = encoded_bytes packet in
      let ss = bytes_left s r bs in
      let b =
      way_begun whole_more s r bs (value_by s) (value_by (s ++ r)) (value_goes s ss) (value_goes (s ++ r) bs) proper
      ((readable_packet (s ++ r)).0 (record { packet = p; encoded = packet; within = deep }))
      in
      let fits : length (bytes (packet_at s)) ≤ room =
      either (length (bytes (packet_at s))) room (λ i. i) (λ i. absurd (n ((incomplete_room_exact s room small).1 i)))
      in
      (b.0, roomy s room small fits ∙ on_stops (packet_at s) 2 b.0 _ _ ((packet_refused s 2 b.0 ss).1 b.1))

  -- So it is by the whole reading.
  pub parse_beginning : (whole_of s room).reading.answer ≢ 4 → (p : ℕ) × (whole_of s room ≡ refused 2 p)
  unfolding whole_of
  parse_beginning n = let b = incomplete_beginning λ four. n (rw four) in (b.0, ap (all s) b.1)
