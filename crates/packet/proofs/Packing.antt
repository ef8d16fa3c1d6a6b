-- The laws of the whole reading: entry by entry, and with the packet's record laid before its count of messages is known.
use Rattle.std.specs.Prelude.{◌+◌, ◌-◌, ◌≤◌, ◌<◌, ◌≡◌, ◌∷◌, Ok, Err, Result}
use Rattle.wire.proofs.Kit.{ℕ, zero, suc, refl, sym, ap, ◌∙◌, List, [], Bool, true, false, sub-one, arith, length, set}
use Rattle.wire.proofs.Kit.{length-append, sets, length-sets, set_comm, set-set, leb, le-leb, lt-leb, ne_eqb}
use Rattle.wire.specs.Choice.{pick}
use Rattle.wire.specs.Limit as limit
use Rattle.wire.specs.Number.{digits}
use Rattle.wire.specs.declared.cursor.Cursor.{Cursor}
use Rattle.wire.specs.Field.{u16_at, got, past_tag, got_to, Parsed}
use Rattle.wire.proofs.Laws.{picked, set_sets}
use Rattle.image.specs.declared.record.Record.TheVariants.{Packet}
use Rattle.image.specs.Record.{bytes_of, size}
use Rattle.image.specs.Due.{Due, end, stop, seen, due, ◌>>=◌, Ends, Ran, ran, run, Step, went_to}
use Rattle.image.specs.Whole.{bytes, refused, settled, finished}
use Rattle.image.proofs.Laws.{run_length, run_stop, size_bytes}
use Rattle.image.proofs.Settle.{finished_run, settled_stop}
use Rattle.amf0.specs.Reading.{top_value}
use Rattle.packet.specs.declared.head.Entry.{Entry}
use Rattle.packet.specs.Head.{version_at, front_of, head_at}
use Rattle.packet.specs.Reading.{record_of, entries_at, count_after, body_at, packet_at, incomplete_of, whole_of}
use Rattle.packet.specs.Code.{packet_in, run_messages, Packed}
use Rattle.packet.proofs.Laws.{Tells, Answers, Halts, run_halts, answered}
use Rattle.packet.proofs.Reasons.{packet_kept}
use Rattle.wire.specs.Answer.{denied, Verdict}

-- ---- entry by entry

module _ (kind : ℕ) (s : List ℕ) (n at : ℕ) where
  pub entries_done : n ≤ 0 → entries_at kind s n at ≡ end at
  unfolding entries_at
  entries_done = go n
    where
      go : (n : ℕ) → n ≤ 0 → entries_at kind s n at ≡ end at
      go zero h = refl
      go (suc n) h = absurd (omega arith)

  pub entries_cut : {a p : ℕ} → 0 < n → head_at kind s at ≡ denied a p → entries_at kind s n at ≡ stop a p
  unfolding entries_at
  entries_cut {a} {p} h e = go n h
    where
      go : (n : ℕ) → 0 < n → entries_at kind s n at ≡ stop a p
      go zero h = absurd (omega arith)
      go (suc n) h = rw e

  pub entries_more : {e : Entry} {c : Cursor} → 0 < n → head_at kind s at ≡ got_to e c
      → entries_at kind s n at ≡ due (record_of e) at (top_value s c.at >>= entries_at kind s (n - 1))
  unfolding entries_at
  entries_more {e} {c} h g = go n h
    where
      go : (n : ℕ) → 0 < n → entries_at kind s n at ≡ due (record_of e) at (top_value s c.at >>= entries_at kind s (n - 1))
      go zero h = absurd (omega arith)
      go (suc n) h = rw (g, sub-one (suc n))

-- ---- where a reading that was carried out goes on

-- at its end, with its records' bytes made
abbrev pub Nexts : Due → ℕ → Step → Type 0
Nexts d made (Ok x) = (x.1 ≡ made + length (bytes d)) × Ends d x.0.at
Nexts d made (Err r) = Unit {0}

pub run_nexts : (d : Due) (made : ℕ) (image : List ℕ) → Nexts d made (run d made image).step
unfolding run bytes
run_nexts (end n) made image = (omega arith, refl)
run_nexts (stop a p) made image = tt
run_nexts (seen fact d) made image = further (run d made image).step (run_nexts d made image)
  where
    further : (x : Step) → Nexts d made x → Nexts (seen fact d) made x
    further (Ok x) n = n
    further (Err r) n = tt
run_nexts (due r p d) made image =
    picked (λ (x : Ran). Nexts (due r p d) made x.step) (leb (made + size r) (length image)) _ _
    (λ t. further (run d (made + size r) (sets image made (bytes_of r))).step (run_nexts d (made + size r) (sets image made (bytes_of r))))
    (λ t. tt)
  where
    further : (x : Step) → Nexts d (made + size r) x → Nexts (due r p d) made x
    further (Ok x) n = (omega (arith, n.0, length-append (bytes_of r) (bytes d), size_bytes r), n.1)
    further (Err r) n = tt

pub run_next : (d : Due) (made : ℕ) (image : List ℕ) {c : Cursor} {m : ℕ} {i : List ℕ} → ran (went_to c m) i ≡ run d made image
    → (m ≡ made + length (bytes d)) × Ends d c.at
run_next d made image e = rw (sym (ap (λ (x : Ran). x.step) e)) at (run_nexts d made image)

count_ends : (s : List ℕ) (d : Due) (n : ℕ) → Ends d n → count_after s d ≡ got (λ a p. 0) (u16_at s n) λ m p. m
count_ends s (end m) n e = rw e
count_ends s (stop a p) n e = absurd e
count_ends s (seen fact d) n e = count_ends s d n e
count_ends s (due r p d) n e = count_ends s d n e

-- ---- the count of messages is set after the headers are read

sets_swap : (l : List ℕ) (i j : ℕ) (a b : List ℕ) → i + length a ≤ j → sets (sets l i a) j b ≡ sets (sets l j b) i a
sets_swap l i j a [] h = refl
sets_swap l i j a (y ∷ b) h = ap (λ (k : List ℕ). sets k (suc j) b) (set_sets l i j y a h) ∙ sets_swap (set l j y) i (suc j) a b (omega arith)

two_again : (l : List ℕ) (i a b c d : ℕ) → sets (sets l i (a ∷ b ∷ [])) i (c ∷ d ∷ []) ≡ sets l i (c ∷ d ∷ [])
two_again l i a b c d = rw (set_comm (set l i a) (suc i) i b c (λ e. omega arith), set-set l i a c, set-set (set l i c) (suc i) b d)

abbrev counted : List ℕ → Ran → Ran
counted x r = ran r.step (sets r.image 3 x)

counted_pick : (t : Bool) (x : List ℕ) (r q : Ran) → pick t (counted x r) (counted x q) ≡ counted x (pick t r q)
counted_pick true x r q = refl
counted_pick false x r q = refl

-- bytes at 3 can be set before or after what is laid behind them
run_counted : (d : Due) (made : ℕ) (image x : List ℕ) → 3 + length x ≤ made → run d made (sets image 3 x) ≡ counted x (run d made image)
unfolding run
run_counted (end n) made image x h = refl
run_counted (stop a p) made image x h = refl
run_counted (seen fact d) made image x h = run_counted d made image x h
run_counted (due r p d) made image x h =
    rw (length-sets image 3 x, sets_swap image 3 made x (bytes_of r) h, run_counted d (made + size r) (sets image made (bytes_of r)) x (omega arith))
    (counted_pick (leb (made + size r) (length image)) x _ _)

packet_bytes : (image : List ℕ) (h n : ℕ) → sets image 0 (bytes_of (Packet h n)) ≡ sets (sets image 0 (bytes_of (Packet h 0))) 3 (digits 2 n)
unfolding bytes_of
packet_bytes image h n = sym (two_again (sets image 0 (0x30 ∷ digits 2 h)) 3 _ _ _ _)

-- the same reading carried out with no count in the packet's record, and with the count n
record Counted (n : ℕ) (plain full : Ran) : Type 0 where
  step : full.step ≡ plain.step
  laid : (c : Cursor) (m : ℕ) → plain.step ≡ went_to c m → full.image ≡ sets plain.image 3 (digits 2 n)

-- the messages from a place on, and the packet with no count of them in its record
abbrev pub messages_at : List ℕ → ℕ → Due
messages_at s e = got stop (u16_at s e) λ m f. entries_at 0x32 s m f

abbrev pub uncounted : List ℕ → ℕ → ℕ → Due
uncounted s h q = due (Packet h 0) 0 (entries_at 0x31 s h q >>= messages_at s)

packet_counted : (h n : ℕ) (d : Due) (image : List ℕ) → Counted n (run (due (Packet h 0) 0 d) 0 image) (run (due (Packet h n) 0 d) 0 image)
unfolding run size
packet_counted h n d image = go (leb 5 (length image))
  where
    go : (t : Bool) → Counted n (pick t (run d 5 (sets image 0 (bytes_of (Packet h 0)))) (ran (denied 4 0) image)) (pick t (run d 5 (sets image 0 (bytes_of (Packet h n)))) (ran (denied 4 0) image))
    go true = rw (packet_bytes image h n, run_counted d 5 (sets image 0 (bytes_of (Packet h 0))) (digits 2 n) (omega arith)) (record { step = refl; laid = λ c m e. refl })
    go false = record { step = refl; laid = λ c m e. let z : ◌≡◌ {A = ℕ} 0 1 = cc in absurd (omega arith) }

-- the packet, from its front on
front_packet : (s : List ℕ) → packet_in s ≡ got stop (front_of s) (body_at s)
unfolding packet_at front_of
front_packet s = go (leb (length s) limit.bytes) (version_at s) (body_at s)
  where
    go : (t : Bool) (x : Result Cursor Verdict) (k : ℕ → ℕ → Due)
        → pick t (past_tag stop x λ p. got stop (u16_at s p) k) (stop 1 0) ≡ got stop (pick t (past_tag denied x λ p. u16_at s p) (denied 1 0)) k
    go true (Ok c) k = refl
    go true (Err r) k = refl
    go false x k = refl

-- a packet whose front is refused
pub packed_none : (s image : List ℕ) {a p : ℕ} → front_of s ≡ denied a p → Packed (denied a p) image s image
packed_none s image {a} {p} g =
    let e : packet_in s ≡ stop a p = front_packet s ∙ rw g in
    record {
      step = ap (λ (y : Ran). y.step) (sym (run_stop 0 image a p)) ∙ ap (λ (d : Due). (run d 0 image).step) (sym e);
      kept = refl;
      laid = λ c m g. let z : ◌≡◌ {A = ℕ} 0 1 = cc in absurd (omega arith);
    }

module _ (s image : List ℕ) {h : ℕ} {d : Cursor} (g : front_of s ≡ got_to h d) where
  packed : (x : Step) (after : List ℕ) → x ≡ (run (uncounted s h d.at) 0 image).step → length after ≡ length image
      → ((c : Cursor) (m : ℕ) → x ≡ went_to c m
      → after ≡ sets (run (uncounted s h d.at) 0 image).image 3 (digits 2 (count_after s (entries_at 0x31 s h d.at))))
      → Packed x after s image
  packed x after e n f =
      let k = packet_counted h (count_after s (entries_at 0x31 s h d.at)) (entries_at 0x31 s h d.at >>= messages_at s) image in
      let p : packet_in s ≡ body_at s h d.at = front_packet s ∙ rw g in
      let q = sym p in
      record {
        step = e ∙ sym k.step ∙ ap (λ (y : Due). (run y 0 image).step) q;
        kept = n;
        laid = λ c m g. f c m g ∙ sym (k.laid c m (sym e ∙ g)) ∙ ap (λ (y : Due). (run y 0 image).image) q;
      }

  -- the reading stops before the messages
  pub packed_stop : {a p : ℕ} {i : List ℕ} → run (uncounted s h d.at) 0 image ≡ ran (denied a p) i → Packed (denied a p) i s image
  packed_stop {a} {p} {i} e =
      packed (denied a p) i (ap (λ (y : Ran). y.step) (sym e)) (ap (λ (y : Ran). length y.image) (sym e) ∙ run_length (uncounted s h d.at) 0 image)
      (λ c m g. let z : ◌≡◌ {A = ℕ} 0 1 = cc in absurd (omega arith))

  -- the messages are read
  pub packed_messages : (at total : ℕ) (j : List ℕ) {x : Step} {after : List ℕ} → 5 ≤ total → Ends (entries_at 0x31 s h d.at) at
      → run (uncounted s h d.at) 0 image ≡ run (messages_at s at) total j → ran x after ≡ run_messages s at total j → Packed x after s image
  packed_messages at total j {x} {after} g k e r = go (u16_at s at) refl e r
    where
      go : (y : Parsed ℕ) → u16_at s at ≡ y → run (uncounted s h d.at) 0 image ≡ run (got stop y λ m f. entries_at 0x32 s m f) total j
          → ran x after ≡ got (λ a p. ran (denied a p) j) y (λ m p. run (entries_at 0x32 s m p) total (sets j 3 (digits 2 m))) → Packed x after s image
      go (Err v) w e r =
          let y = e ∙ run_stop total j v.answer v.place in
          let t = ap (λ (z : Ran). z.step) r in
          packed x after (t ∙ ap (λ (z : Ran). z.step) (sym y)) (ap (λ (z : Ran). length z.image) (r ∙ sym y) ∙ run_length (uncounted s h d.at) 0 image)
          (λ c m g. let f = sym t ∙ g in let z : ◌≡◌ {A = ℕ} 0 1 = cc in absurd (omega arith))
      go (Ok v) w e r =
          let t = r ∙ run_counted (entries_at 0x32 s v.0 v.1.at) total j (digits 2 v.0) (omega arith) ∙ ap (counted (digits 2 v.0)) (sym e) in
          let y = run (uncounted s h d.at) 0 image in
          let f = ap (λ (z : Ran). z.image) t in
          let m : count_after s (entries_at 0x31 s h d.at) ≡ v.0 = rw w at (count_ends s (entries_at 0x31 s h d.at) at k) in
          packed x after (ap (λ (z : Ran). z.step) t) (ap length f ∙ length-sets y.image 3 (digits 2 v.0) ∙ run_length (uncounted s h d.at) 0 image)
          (λ c i g. rw m f)

-- ---- what the packet comes to

incomplete_read : (s : List ℕ) (room : ℕ) → settled (packet_in s) room ≡ incomplete_of s room
unfolding incomplete_of
incomplete_read s room = go (leb (length s) limit.bytes)
  where
    go : (t : Bool) → settled (pick t (packet_at s) (stop 1 0)) room ≡ pick t (settled (packet_at s) room) (refused 1 0)
    go true = refl
    go false = settled_stop 1 0 room

finished_same : (x : Step) (i j : List ℕ) → ((c : Cursor) (m : ℕ) → x ≡ went_to c m → i ≡ j) → finished x i ≡ finished x j
finished_same (Ok x) i j h = rw (h x.0 x.1 refl)
finished_same (Err r) i j h = refl

pub packed_finished : (s image : List ℕ) {x : Step} {after : List ℕ} → Packed x after s image → finished x after ≡ incomplete_of s (length image)
packed_finished s image {x} {after} p =
    finished_same x after (run (packet_in s) 0 image).image p.laid
    ∙ ap (λ (y : Step). finished y (run (packet_in s) 0 image).image) p.step
    ∙ finished_run (packet_in s) image
    ∙ incomplete_read s (length image)

packed_halts : (s image : List ℕ) {x : Step} {after : List ℕ} → Packed x after s image → Halts x
packed_halts s image p =
    rw p.step
    (run_halts (packet_in s) 0 image
    (picked Answers (leb (length s) limit.bytes) (packet_at s) (stop 1 0) (λ t. answered (Tells 2) (λ a m. m.low) s 0 (packet_at s) (packet_kept s)) (λ t. omega arith)))

module _ (s image : List ℕ) {after : List ℕ} where
  pub whole_stop : {a p : ℕ} → Packed (denied a p) after s image → whole_of s (length image) ≡ refused a p
  unfolding whole_of
  whole_stop {a} {p} k = let h = packed_halts s image k in rw (← packed_finished s image k, ne_eqb a 0 λ e. omega arith)

  pub whole_more : {c : Cursor} {m : ℕ} → Packed (went_to c m) after s image → c.at < length s → whole_of s (length image) ≡ refused 3 c.at
  unfolding whole_of
  whole_more {c} k h = rw (← packed_finished s image k, lt-leb (length s) c.at h)

  pub whole_all : {c : Cursor} {m : ℕ} → Packed (went_to c m) after s image → length s ≤ c.at → whole_of s (length image) ≡ finished (went_to c m) after
  unfolding whole_of
  whole_all {c} k h = rw (← packed_finished s image k, le-leb (length s) c.at h)
