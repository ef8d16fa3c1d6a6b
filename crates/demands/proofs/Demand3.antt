-- Demand 3 of the calls: two packets, and what the calls give for the one and for the other.
use Rattle.std.specs.Prelude.{◌+◌, ◌/◌, ◌≤◌, ◌<◌, ◌≡◌, ◌≢◌, ◌⊎◌, ◌∷◌, ◌++◌, Ok}
use Rattle.wire.proofs.Kit.{ℕ, suc, refl, sym, ap, ◌∙◌, inl, inr, ⊎_elim, List, [], true, false, sub-zero, arith, length, get_or, take, replicate}
use Rattle.wire.proofs.Kit.{length-take, ltb, le-ltb, ltb-true}
use Rattle.wire.proofs.Laws.{picked}
use Rattle.wire.specs.Number.{Bytes}
use Rattle.wire.specs.Field.{bytes_at}
use Rattle.wire.specs.Text.{part_of}
use Rattle.image.specs.declared.reading.Reading.{Reading}
use Rattle.image.specs.declared.record.Record.TheVariants as R
use Rattle.image.specs.Record.{bytes_of}
use Rattle.image.specs.Whole.{Whole, refused}
use Rattle.amf0.specs.Span.{Changed}
use Rattle.packet.specs.declared.head.Entry.{Entry}
use Rattle.packet.specs.declared.entry.Cutting.{Cutting}
use Rattle.packet.specs.Reading.{whole_of}
use Rattle.packet.specs.Entry.{Cut as PacketCut, found, stops, cut_of, no_entry, Listed, list_of, found_in, span, span_of, read_span, read_entry}
use Rattle.packet.specs.Change as change
use Rattle.packet.specs.Change.{known, known_spans, images_from}
use Rattle.packet.proofs.Laws.{Splits, cut_told as cut_splits, entry_chosen}
use Rattle.packet_theorems.specs.Cuts.{CutInto, Exact}
use Rattle.packet_theorems.proofs.Demand3 as packets
use Rattle.packet_theorems.proofs.Theorems as calls
use Rattle.packet_theorems.proofs.Outcome.{ComesList, comes_list}
use Rattle.packet_theorems.proofs.CutExactly.{cut_sound}
use Rattle.packet_theorems.proofs.SpanTheorems.{span_judged}
use Rattle.packet_theorems.proofs.CutTheorems as cuts
use Rattle.packet_theorems.proofs.CutTheorems.{same_list}
use Rattle.demands.specs.Forms.{listed, Same}
use Rattle.demands.proofs.Agree.{Alone, images_of, Made, Agrees}
use Rattle.demands.proofs.Calls.{Part, PacketParse, ParseEntry, ParseSpan, Nth, Cut, RowCut}
use Rattle.demands.proofs.Told.{part_told, value_reads, packet_reads, entry_reads, span_reads, nth_told, cut_told, row_told}
use Rattle.demands.proofs.Laws.{made_is, same_read}
use Rattle.demands.proofs.Demand1.{listed_is}
use Rattle.wire.specs.Answer.{denied}
use Rattle.packet.specs.Entry.{Found}

-- the parts of two rows, as long as each other, that are the same bytes
same_part : (s t : List ℕ) (p n : ℕ) → length t ≡ length s → bytes_at n t p ≡ bytes_at n s p → part_of t p n ≡ part_of s p n
same_part s t p n l e = rw (l, e) refl

-- so a part with the same bytes reads the same
same_span : (s t : List ℕ) (p n room : ℕ) → length t ≡ length s → bytes_at n t p ≡ bytes_at n s p → read_span t p n room ≡ read_span s p n room
unfolding read_span
same_span s t p n room l e = rw (l, e) refl

-- what an accepted `cut` leaves are the entries that it finds
cut_entries : (s : List ℕ) (list : List Entry) (c : Cutting) (left : List Entry) → Cut s list c left → c.answer ≡ 0
    → cut_of s ≡ found (take c.count left) c.used
cut_entries s list c left a z = go (list_of s (length list)) (comes_list s (length list)) (listed_is s list c left a)
  where
    go : (w : Listed) → ComesList s (length list) w → listed c left ≡ w → cut_of s ≡ found (take c.count left) c.used
    go w (ComesList.not_cut {a = b} {p} e) f =
        let h : Splits s (stops b p) = rw e at (cut_splits s) in
        absurd (omega (arith, h.cuts.low, ap (λ (x : Listed). x.cutting.answer) f))
    go w (ComesList.too_short e h) f = absurd (omega (arith, ap (λ (x : Listed). x.cutting.answer) f))
    go w (ComesList.cut {es} e h) f = e ∙ ap (λ (x : Listed). found x.entries x.cutting.used) (sym f)

-- an entry with a number, and the cut that it is of
pub record Found-in (s : List ℕ) (k : ℕ) (e : Entry) : Type 0 where
  pub entries : List Entry
  pub ends : ℕ
  pub cut : cut_of s ≡ found entries ends
  pub below : k < length entries
  pub same : e ≡ get_or entries k no_entry

-- what `nth` finds is one
pub found_in_lem : {s : List ℕ} {k : ℕ} {e : Entry} → Nth s k (Ok e) → Found-in s k e
found_in_lem {s} {k} {e} a = go (cut_of s) refl (nth_told a)
  where
    go : (x : PacketCut) → cut_of s ≡ x → Ok e ≡ found_in x k → Found-in s k e
    go (stops b p) c = λ f. let z : ◌≡◌ {A = ℕ} 0 1 = cc in absurd (omega arith)
    go (found es n) c =
        picked (λ (f : Found). Ok e ≡ f → Found-in s k e) (ltb k (length es)) _ _
        (λ h f. record { entries = es; ends = n; cut = c; below = ltb-true _ _ h; same = cc })
        (λ h f. let z : ◌≡◌ {A = ℕ} 0 1 = cc in absurd (omega arith))

-- "Take a packet that the cut accepts. Change bytes inside any of its values with a known length and nothing else."
module _ (s t : List ℕ) (list left : List Entry) (c : Cutting) (bs : Bytes s) (call : Cut s list c left) (ok : c.answer ≡ 0)
    (change : Changed (known_spans s (take c.count left)) s t) where
  -- its entries,
  abbrev es : List Entry
  es = take c.count left

  -- and where they end
  abbrev n : ℕ
  n = c.used

  -- they are those of the cut
  cut : cut_of s ≡ found es n
  cut = cut_entries s list c left call ok

  -- ---- "every name, flag and address .. answers as before"

  -- `nth` gives the same entry: its kind, its flag, and the places and lengths of its texts and of its value.
  pub same_nth : (k : ℕ) (f g : Found) → Nth s k f → Nth t k g → g ≡ f
  same_nth k f g a b = nth_told b ∙ (ap (λ x. found_in x k) (packets.same_cut s t es n bs cut change) ∙ sym (nth_told a))

  -- `cut` returns the same, and leaves the same entries in a list of the same size.
  pub same_cut : (a b x y : List Entry) (d f : Cutting) → Cut s a d x → Cut t b f y → length b ≡ length a → (f ≡ d) × (y ≡ x)
  same_cut u v x y d f a b l =
      let e = same_list s t es n (length u) bs cut change in
      (rw (l, e) at (cut_told b).0 ∙ sym (cut_told a).0, rw (l, e) at (cut_told b).1 ∙ sym (cut_told a).1)

  -- So does the cut into a row of numbers.
  pub same_row : (a b x y : List ℕ) (d f : Cutting) → RowCut s a d x → RowCut t b f y → length b ≡ length a → (f ≡ d) × (y ≡ x)
  same_row u v x y d f a b l =
      let e = same_list s t es n (length u / 8) bs cut change in
      (rw (l, e) at (row_told b).0 ∙ sym (row_told a).0, rw (l, e) at (row_told b).1 ∙ sym (row_told a).1)

  -- an entry that `nth` finds is one of the cut
  found_at : {k : ℕ} {e : Entry} → Nth s k (Ok e) → (k < length es) × (e ≡ get_or es k no_entry)
  found_at {k} {e} a =
      let f = found_in_lem a in
      let g : found es n ≡ found f.entries f.ends = sym cut ∙ f.cut in
      let same : f.entries ≡ es = cc in
      (rw same at f.below, rw same at f.same)

  -- The texts of an entry, a header's name or a message's target and response, are the same.
  pub same_first : (k : ℕ) (e : Entry) (x y : List ℕ) → Nth s k (Ok e) → Part s e.place1 e.length1 x → Part t e.place1 e.length1 y → y ≡ x
  same_first k e x y a p q =
      let (h, f) = found_at a in
      let b : bytes_at e.length1 t e.place1 ≡ bytes_at e.length1 s e.place1 = rw f (packets.same_first s t es n bs cut change k h) in
      part_told q ∙ (same_part s t e.place1 e.length1 change.long b ∙ sym (part_told p))

  -- The second text is a message's response; a header has an empty one.
  pub same_second : (k : ℕ) (e : Entry) (x y : List ℕ) → Nth s k (Ok e) → Part s e.place2 e.length2 x → Part t e.place2 e.length2 y → y ≡ x
  same_second k e x y a p q =
      let (h, f) = found_at a in
      let b : bytes_at e.length2 t e.place2 ≡ bytes_at e.length2 s e.place2 = rw f (packets.same_second s t es n bs cut change k h) in
      part_told q ∙ (same_part s t e.place2 e.length2 change.long b ∙ sym (part_told p))

  -- ---- "every untouched value answers as before", in the same room

  -- By its number: `parse_entry` returns and leaves the same.
  pub untouched : (k : ℕ) (e : Entry) → Nth s k (Ok e) → span_of t e ≡ span_of s e → Same (ParseEntry s k) (ParseEntry t k)
  untouched k e f u i j x y r q a b =
      same_read (λ room. packets.untouched s t es n bs cut change k room (rw (found_at f).1 at u)) i j x y r q
      ((entry_reads k).told s i r x a) ((entry_reads k).told t j q y b)

  -- A value whose length is not known is untouched.
  pub unknown_same : (k : ℕ) (e : Entry) → Nth s k (Ok e) → known s e ≡ false → Same (ParseEntry s k) (ParseEntry t k)
  unknown_same k e f u i j x y r q a b =
      let (h, g) = found_at f in
      same_read (λ room. packets.unknown_same s t es n bs cut change k room h (rw g at u)) i j x y r q ((entry_reads k).told s i r x a)
      ((entry_reads k).told t j q y b)

  -- By its place and length, as those of any part of the packet: so does `parse_span`.
  pub untouched_span : (p m : ℕ) → bytes_at m t p ≡ bytes_at m s p → Same (ParseSpan s p m) (ParseSpan t p m)
  untouched_span p m u i j x y r q a b =
      same_read (λ room. same_span s t p m room change.long u) i j x y r q ((span_reads p m).told s i r x a) ((span_reads p m).told t j q y b)

  -- ---- "a changed value answers as the value reader does on those bytes alone, places shifted", in the same room

  -- By its number.
  pub changed : (k : ℕ) (e : Entry) → Nth s k (Ok e) → Alone e.place (span_of t e) (ParseEntry t k)
  changed k e f i j x y r q a b l =
      let (h, g) = found_at f in
      rw (made_is value_reads (span_of t e) i r x a, made_is (entry_reads k) t j q y b, l, g) (packets.changed s t es n bs cut change k (length i) h)

  -- By its place and length.
  pub changed_span : (k : ℕ) (e : Entry) → Nth s k (Ok e) → Alone e.place (span_of t e) (ParseSpan t e.place e.length)
  changed_span k e f i j x y r q a b l =
      let h = entry_chosen s k 0 (cut_of s) {e = e} (cut_splits s) (nth_told f) in
      rw (made_is value_reads (span_of t e) i r x a, made_is (span_reads e.place e.length) t j q y b, l)
      (span_judged t e.place e.length (length i) (omega (arith, h.short, change.long)) (omega (arith, h.inside, change.long)))

  -- ---- and there are no more entries

  -- By number, 8 is the answer,
  pub past_nth : (k : ℕ) (g : Found) → c.count ≤ k → Nth t k g → g ≡ denied 8 0
  past_nth k g h a =
      let l : length es ≤ k = omega (arith, length-take c.count left) in
      nth_told a ∙ rw (packets.same_cut s t es n bs cut change, cut, le-ltb k (length es) l) refl

  -- and so it is for the value.
  pub past : (k : ℕ) (j : List ℕ) (q : Reading) (y : List ℕ) → c.count ≤ k → ParseEntry t k j q y → (q ≡ (refused 8 0).reading) × (y ≡ replicate (length j) 0)
  past k j q y h a =
      let e = packets.past s t es n bs cut change k (length j) (omega (arith, length-take c.count left)) in
      let b = (entry_reads k).told t j q y a in
      (b.returns ∙ ap (λ (w : Whole). w.reading) e, b.leaves ∙ rw e (ap (λ m. replicate m 0) (sub-zero (length j))))

-- They are the headers and messages that stand in it, one by one.
pub cut_into : (s : List ℕ) (list : List Entry) (c : Cutting) (left : List Entry) → Bytes s → Cut s list c left → c.answer ≡ 0
    → CutInto s (take c.count left)
cut_into s list c left bs a z = cut_sound s (take c.count left) c.used bs (cut_entries s list c left a z)

-- What an accepted `cut` leaves at a number below its count is what `nth` finds by that number,
pub cut_nth : (s : List ℕ) (list : List Entry) (c : Cutting) (left : List Entry) (k : ℕ) (f : Found) → Cut s list c left → k < c.count → Nth s k f
    → f ≡ Ok (get_or left k no_entry)
cut_nth s list c left k f a h b = nth_told b ∙ rw (cut_told a).1 (cuts.cut_nth s (length list) k (rw (cut_told a).0 at h))

-- and read by its place and length it answers as it does by its number.
pub cut_span : (s : List ℕ) (list : List Entry) (c : Cutting) (left : List Entry) (k : ℕ) → Cut s list c left → k < c.count
    → let e = get_or left k no_entry in Same (ParseEntry s k) (ParseSpan s e.place e.length)
cut_span s list c left k a h i j x y r q b d =
    let e = get_or left k no_entry in
    same_read (λ room. rw (cut_told a).1 (cuts.cut_span s (length list) k room (rw (cut_told a).0 at h))) i j x y r q ((entry_reads k).told s i r x b)
    ((span_reads e.place e.length).told s j q y d)

-- Where bytes inside one value with a known length alone are changed, one marker or all of it, every other entry answers as before.
pub neighbours : (s t : List ℕ) (m k : ℕ) (d e : Entry) → Bytes s → Nth s m (Ok d) → known s d ≡ true → Changed (span d ∷ []) s t
    → Nth s k (Ok e) → k ≢ m → Same (ParseEntry s k) (ParseEntry t k)
neighbours s t m k d e bs a told change b other i j x y r q u v =
    let f = found_in_lem a in
    let g = found_in_lem b in
    let h : found f.entries f.ends ≡ found g.entries g.ends = sym f.cut ∙ g.cut in
    let same : g.entries ≡ f.entries = cc in
    let part : Changed (span (get_or f.entries m no_entry) ∷ []) s t = rw f.same at change in
    let here : known s (get_or f.entries m no_entry) ≡ true = rw f.same at told in
    same_read (λ room. packets.neighbours s t f.entries f.ends m bs f.cut f.below here part k room (rw same at g.below) other) i j x y r q
    ((entry_reads k).told s i r x u) ((entry_reads k).told t j q y v)

-- An entry whose length is not known was measured: it is accepted, and uses the length that it was measured to have, or it is refused with 4.
pub measured : (s : List ℕ) (k : ℕ) (e : Entry) (i : List ℕ) (r : Reading) (x : List ℕ) → Bytes s → Nth s k (Ok e) → known s e ≡ false
    → ParseEntry s k i r x → ((r.answer ≡ 0) × (r.used ≡ e.length)) ⊎ (r.answer ≡ 4)
measured s k e i r x bs a u b =
    let f = found_in_lem a in
    let w = ((entry_reads k).told s i r x b).returns in
    rw (w, f.same)
    (⊎_elim (λ z. inl (ap (λ (v : Whole). v.reading.answer) z, ap (λ (v : Whole). v.reading.used) z))
    (λ z. inr (ap (λ (v : Whole). v.reading.answer) z.1))
    (calls.measured_read s f.entries f.ends k (length i) bs f.cut f.below (rw f.same at u)))

-- ---- "Where the whole-packet reader accepts a packet whose lengths are exact or not known, entry reading in that room gives the same values."

-- the image of entries, by what was made of each
same_images : (s : List ℕ) (room : ℕ) (f : ℕ → List ℕ) (k : ℕ) (es : List Entry) → ((j : ℕ) → k ≤ j → j < k + length es → f j ≡ (read_entry s j room).bytes)
    → images_of f k es ≡ images_from s room k es
same_images s room f k [] h = refl
same_images s room f k (e ∷ es) h =
    rw (h k (omega arith) (omega arith), same_images s room f (suc k) es λ j a b. h j (omega arith) (omega arith)) refl

-- what was made of an entry is what reading it comes to
made_entry : {s : List ℕ} {room k : ℕ} {b : List ℕ} → Made s room k b → b ≡ (read_entry s k room).bytes
made_entry {s} {room} {k} m =
    m.made
    ∙ (ap (λ (w : Whole). w.bytes) (made_is (entry_reads k) s m.image m.reading m.left m.call) ∙ ap (λ n. (read_entry s k n).bytes) m.same_room)

-- what agrees over the definitions agrees over the calls
agree : {s : List ℕ} {room : ℕ} → change.Agrees s room → Agrees s room (whole_of s room).bytes
agree {s} {room} g =
    record {
      headers = g.headers;
      messages = g.messages;
      cut = λ list left c b ne. all g.cut (list_of s (length list)) (comes_list s (length list)) c left (listed_is s list c left b) ne;
      accepts = λ k j q y h b l.
          let e : q ≡ (read_entry s k room).reading = rw l at ((entry_reads k).told s j q y b).returns in
          let w = g.accepts k h in
          let a = ap (λ (v : Reading). v.answer) e ∙ ap (λ (x : Whole). x.reading.answer) w in
          (a, ap (λ (v : Reading). v.used) e ∙ ap (λ (x : Whole). x.reading.used) w);
      image = λ f h.
          g.image
          ∙ ap (λ b. bytes_of (R.Packet (length g.headers) (length g.messages)) ++ b)
          (sym (same_images s room f 0 (g.headers ++ g.messages) λ j a b. made_entry (h j (omega arith))));
    }
  where
    all : {es : List Entry} → cut_of s ≡ found es (length s) → (w : Listed) {room : ℕ} → ComesList s room w → (c : Cutting) (left : List Entry)
        → listed c left ≡ w → c.answer ≢ 4 → (c.answer ≡ 0) × (take c.count left ≡ es)
    all g w (ComesList.not_cut e) c left f ne = let z : ◌≡◌ {A = ℕ} 0 1 = cc in absurd (omega arith)
    all g w (ComesList.too_short e h) c left f ne = absurd (ne (ap (λ (x : Listed). x.cutting.answer) f))
    all {es} g w (ComesList.cut {es = fs} e h) c left f ne =
        let same : fs ≡ es = cc in
        (ap (λ (x : Listed). x.cutting.answer) f, ap (λ (x : Listed). x.entries) f ∙ same)

-- The whole reading accepts: each entry is accepted in that room, and its image stands in the whole one.
pub agreement : (s i : List ℕ) (r : Reading) (x : List ℕ) → Bytes s → Exact s → PacketParse s i r x → r.answer ≡ 0 → Agrees s (length i) (take r.made x)
agreement s i r x bs h a z =
    let e = made_is packet_reads s i r x a in
    rw (ap (λ (w : Whole). w.bytes) e) (agree (packets.agreement s (length i) bs h (sym (ap (λ (w : Whole). w.reading.answer) e) ∙ z)))
