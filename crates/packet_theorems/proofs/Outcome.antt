-- What the packet calls come to, from how their readings end.
use Rattle.std.specs.Prelude.{◌+◌, ◌≤◌, ◌<◌, ◌≡◌, Ok, Err}
use Rattle.wire.proofs.Kit.{ℕ, refl, sym, List, arith, length, leb, leb-true, leb-false}
use Rattle.wire.specs.Limit as limit
use Rattle.wire.proofs.Laws.{picked}
use Rattle.image.specs.Whole.{Whole, refused}
use Rattle.amf0.specs.Span.{span_at, answer_of, one_value}
use Rattle.amf0_theorems.proofs.Call.{Bounded}
use Rattle.packet.specs.declared.head.Entry.{Entry}
use Rattle.packet.specs.Reading.{packet_at}
use Rattle.packet.specs.Entry.{Cut, found, stops, cut_of, Listed, uncut, listed, list_of, span, read_span, entry_in, read_entry, found_in}
use Rattle.packet.proofs.Laws.{Tells, cut_told, entry_none, entry_chosen}
use Rattle.packet.proofs.Reasons.{packet_kept}
use Rattle.image.proofs.Kept.{ends_kept, stops_kept, small, due_inside}
use Rattle.image.proofs.Settle.{due_lacks}
use Rattle.packet_theorems.proofs.Frame.{cut_read}
use Rattle.wire.specs.Answer.{denied}
use Rattle.packet.specs.Entry.{Found}

-- ---- the incomplete reading

-- it ends inside the packet, is refused at a place inside it, by a field with another answer than 1 and 4, and makes at most three bytes for each of the packet
pub packet_bounded : (s : List ℕ) → Bounded s (packet_at s)
packet_bounded s =
    let k = packet_kept s in
    record {
      within = λ n e. (ends_kept (Tells 2) s 0 n (packet_at s) k e).1;
      low = λ a p t. (stops_kept (Tells 2) s 0 a p (packet_at s) k t).0.low;
      other = λ a p t. (stops_kept (Tells 2) s 0 a p (packet_at s) k t).0.room;
      small = omega (arith, small (Tells 2) s 0 (packet_at s) k);
      inside = λ a p t. (stops_kept (Tells 2) s 0 a p (packet_at s) k t).1;
      due_at_lem = λ room p l. (due_lacks (λ r q. q ≤ length s) (packet_at s) 0 room p (due_inside (Tells 2) s 0 (packet_at s) k) l).1;
    }

-- ---- an entry

-- a part of a packet is over the limit or not inside it, or else answers by its bytes
pub span_either : (P : Whole → Type 0) (s : List ℕ) (place n room : ℕ) → (limit.bytes < length s → P (refused 1 0))
    → (length s ≤ limit.bytes → length s < place + n → P (refused 8 0))
    → (length s ≤ limit.bytes → place + n ≤ length s → P (answer_of one_value s (span_at place n) room)) → P (read_span s place n room)
unfolding read_span
span_either P s place n room f g h =
    picked P (leb (length s) limit.bytes) _ _
    (λ t. picked P (leb (place + n) (length s)) _ _ (λ u. h (leb-true _ _ t) (leb-true _ _ u)) (λ u. g (leb-true _ _ t) (leb-false _ _ u)))
    (λ t. f (leb-false _ _ t))

-- an entry is refused as the cut is, or for want of it, or else answers by its bytes
pub entry_either : (P : Whole → Type 0) (s : List ℕ) (number room : ℕ) → ((a p : ℕ) → found_in (cut_of s) number ≡ denied a p → P (refused a p))
    → ((e : Entry) → found_in (cut_of s) number ≡ Ok e → length s ≤ limit.bytes → e.place + e.length ≤ length s → P (answer_of one_value s (span e) room))
    → P (read_entry s number room)
unfolding read_entry
entry_either P s number room f g = go (found_in (cut_of s) number) refl
  where
    go : (x : Found) → found_in (cut_of s) number ≡ x → P (entry_in s (cut_of s) number room)
    go (Err r) h = rw (entry_none s number room (cut_of s) (sym h)) (f r.answer r.place h)
    go (Ok e) h = let c = entry_chosen s number room (cut_of s) (cut_told s) (sym h) in rw c.read (g e h c.short c.inside)

-- ---- the cut

-- the cut into a list
pub data ComesList (s : List ℕ) (room : ℕ) : Listed → Type 0 where
  not_cut : {a p : ℕ} → cut_of s ≡ stops a p → ComesList s room (uncut a p)
  too_short : {es : List Entry} → cut_of s ≡ found es (length s) → room < length es → ComesList s room (uncut 4 0)
  cut : {es : List Entry} → cut_of s ≡ found es (length s) → length es ≤ room
      → ComesList s room (record { cutting = record { answer = 0; used = length s; count = length es }; entries = es })

pub comes_list : (s : List ℕ) (room : ℕ) → ComesList s room (list_of s room)
unfolding list_of
comes_list s room = go (cut_of s) refl
  where
    go : (x : Cut) → cut_of s ≡ x → ComesList s room (listed x room)
    go (stops a p) e = ComesList.not_cut e
    go (found es z) e =
        let l = (cut_read s es z e).all in
        let f : cut_of s ≡ found es (length s) = rw (← l) e in
        rw l
        (picked (ComesList s room) (leb (length es) room) _ _ (λ t. ComesList.cut f (leb-true _ _ t)) (λ t. ComesList.too_short f (leb-false _ _ t)))
