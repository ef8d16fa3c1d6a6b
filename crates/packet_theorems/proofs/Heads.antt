-- The head of an entry against the bytes that stand in the packet: what stands there is read, and what was read stood there.
use Rattle.std.specs.Prelude.{◌+◌, ◌^◌, ◌≤◌, ◌<◌, ◌≡◌, ◌∷◌, ◌++◌}
use Rattle.wire.proofs.Kit.{ℕ, zero, suc, refl, ap, ◌∙◌, List, [], append_assoc, Bool, true, false, arith, length}
use Rattle.wire.proofs.Kit.{length-append, drop, ltb, eqb, lit<, lt-ltb}
use Rattle.wire.specs.Choice.{pick}
use Rattle.wire.specs.Number.{digits, Bytes}
use Rattle.wire.specs.Utf8.{utf8}
use Rattle.wire.specs.Field.{to, text_at, got_to, text_to}
use Rattle.wire.specs.Limit as limit
use Rattle.wire.specs.declared.cursor.Cursor.{Cursor}
use Rattle.wire.proofs.Stands.{Here, cut, skip, inside, there, bytes_here, text_at_lem, byte_at, u32_at_lem, end_text, end8, end32}
use Rattle.image.specs.Record.{bit_of as bit}
use Rattle.image.specs.Taking.{Fits}
use Rattle.amf0.specs.Standard.{UTF-8}
use Rattle.amf0.specs.Standard.UTF-8.{short}
use Rattle.amf0.specs.Shown as Shown
use Rattle.amf0_theorems.proofs.Sound.{ends_at}
use Rattle.packet.specs.declared.head.Entry.{Entry}
use Rattle.packet.specs.Head.{bit_of, entry, header_at, message_at, head_at, Head}
use Rattle.packet.specs.Packet as packet
use Rattle.packet.specs.Packet.{Label, IsHeader, IsMessage}
use Rattle.packet.specs.Reading.{record_of}
use Rattle.packet.specs.Shown.{Names}
use Rattle.packet.specs.Written.{Holds, Labelled}
use Rattle.packet_theorems.specs.Cuts.{entry_of}
use Rattle.packet_theorems.proofs.Same.{not_read}
use Rattle.wire.specs.Answer.{denied}

-- ---- what stands there is read

-- a row of an entry's own fields and the length that it declares stand at a place: they are read as an entry that says so
pub record Stands (kind : ℕ) (s : List ℕ) (at : ℕ) (l : Label) (x : List ℕ) (d : ℕ) : Type 0 where
  pub entry : Entry
  pub read : head_at kind s at ≡ got_to entry (to entry.place)
  pub place : entry.place ≡ at + length x + 4
  pub declared : entry.length ≡ d
  pub is : entry ≡ entry_of at l d
  pub names : Names s l (record_of entry)
  pub fits : length s ≤ limit.bytes → Fits (record_of entry)
  pub labelled : Labelled s l entry

pub group : {s r : List ℕ} {at : ℕ} (x y z : List ℕ) → Here s at ((x ++ y) ++ z) r → Here s at (x ++ (y ++ z)) r
group {r = r} x y z h = record { same = h.same ∙ ap (λ w. w ++ r) (append_assoc x y z) }

-- a text, and what stands behind it
text_here : {s r : List ℕ} {at : ℕ} (t y : List ℕ) → Here s at ((digits 2 (length t) ++ t) ++ y) r → length t < 256 ^ 2 → utf8 t ≡ true
    → (text_at 2 s at ≡ text_to (at + 2) (length t) (to (at + 2 + length t))) × Holds s t (at + 2) (length t) × Here s (at + 2 + length t) y r
text_here {s} {at = at} t y h b u =
    let c = cut (digits 2 (length t) ++ t) y h in
    let e : at + length (digits 2 (length t) ++ t) ≡ at + 2 + length t = omega arith in
    let i = inside c (omega arith) in
    let x : Holds s t (at + 2) (length t) =
    record { inside = omega arith; long = refl; same = there (length t) (skip (digits 2 (length t)) t c) refl } in
    (text_at_lem 2 t c b u (omega arith), x, rw e at (skip (digits 2 (length t) ++ t) y h))

-- a text that is held there, and UTF-8, stands there
named : {s t : List ℕ} {p n : ℕ} → Holds s t p n → utf8 t ≡ true → Shown.Stands s p n
named h u = record { inside = h.inside; right = rw h.same u }

-- a flag is one byte
bit_small : (flag : Bool) → bit flag < 256 ^ 1
bit_small true = lit< tt
bit_small false = lit< tt

-- a flag, true if not 0, is written as 0 or 1
flag_bit : (b : ℕ) → bit_of b ≡ bit (eqb (bit_of b) 1)
flag_bit b = go (ltb 0 b)
  where
    go : (t : Bool) → pick t 1 0 ≡ bit (eqb (pick t 1 0) 1)
    go true = refl
    go false = refl

module _ {s r : List ℕ} {at : ℕ} where
  header_stands : (t : List ℕ) (b d : ℕ) → Here s at (((digits 2 (length t) ++ t) ++ (b ∷ [])) ++ digits 4 d) r → length t < 256 ^ 2 → utf8 t ≡ true
      → d < 256 ^ 4 → Stands 0x31 s at (Label.header t (eqb (bit_of b) 1)) ((digits 2 (length t) ++ t) ++ (b ∷ [])) d
  unfolding header_at
  header_stands t b d h l u m =
      let x = text_here t ((b ∷ []) ++ digits 4 d) (group (digits 2 (length t) ++ t) (b ∷ []) (digits 4 d) h) l u in
      record {
        entry = entry 0x31 (bit_of b) (at + 2) (length t) 0 0 (at + 2 + length t + 1 + 4) d;
        read = rw (x.0, byte_at b (cut (b ∷ []) (digits 4 d) x.2), u32_at_lem d (skip (b ∷ []) (digits 4 d) x.2) m);
        place = simp length-append (omega arith);
        declared = refl;
        is = ap (λ f. entry 0x31 f (at + 2) (length t) 0 0 (at + 2 + length t + 1 + 4) d) (flag_bit b);
        names = Names.header (eqb (bit_of b) 1) (named x.1 u) x.1.same;
        fits = λ i. record { a = omega (arith, x.1.inside); b = l; c = bit_small (eqb (bit_of b) 1); d = lit< tt; zone = λ n z e. cc };
        labelled = record { kind = refl; bit = flag_bit b; first = x.1; no_place = refl; no_length = refl };
      }

  message_stands : (t o : List ℕ) (d : ℕ) → Here s at (((digits 2 (length t) ++ t) ++ (digits 2 (length o) ++ o)) ++ digits 4 d) r
      → length t < 256 ^ 2 → utf8 t ≡ true → length o < 256 ^ 2 → utf8 o ≡ true
      → d < 256 ^ 4 → Stands 0x32 s at (Label.message t o) ((digits 2 (length t) ++ t) ++ (digits 2 (length o) ++ o)) d
  unfolding message_at
  message_stands t o d h l u k w m =
      let q = digits 2 (length o) ++ o in
      let x = text_here t (q ++ digits 4 d) (group (digits 2 (length t) ++ t) q (digits 4 d) h) l u in
      let y = text_here o (digits 4 d) x.2 k w in
      record {
        entry = entry 0x32 0 (at + 2) (length t) (at + 2 + length t + 2) (length o) (at + 2 + length t + 2 + length o + 4) d;
        read = rw (x.0, y.0, u32_at_lem d y.2 m);
        place = simp length-append (omega arith);
        declared = refl;
        is = refl;
        names = Names.message (named x.1 u) (named y.1 w) x.1.same y.1.same;
        fits = λ i. record { a = omega (arith, x.1.inside); b = l; c = omega (arith, y.1.inside); d = k; zone = λ n z e. cc };
        labelled = record { kind = refl; bit = refl; first = x.1; second = y.1 };
      }

-- ---- what was read stood there

-- an entry's own fields, and the length that it declares, stand at a place
pub record Stood (Kind : Label → Type 0) (s : List ℕ) (at : ℕ) : Type 0 where
  pub label : Label
  pub row : List ℕ
  pub rest : List ℕ
  pub declared : ℕ
  pub kind : Kind label
  pub head : packet.Head label row
  pub small : declared < 256 ^ 4
  pub here : Here s at (row ++ digits 4 declared) rest

-- a header's name and flag, by the flag's byte
pub flag_head : {t x : List ℕ} (b : ℕ) → b < 256 → UTF-8 t x → packet.Head (Label.header t (eqb (bit_of b) 1)) (x ++ (b ∷ []))
flag_head zero h u = packet.Head.header_false u
flag_head (suc zero) h u = packet.Head.header_true u
flag_head (suc (suc b)) h u = rw (lt-ltb 0 (suc (suc b)) (omega arith)) (packet.Head.header_above (suc (suc b)) (omega arith) h u)

module _ (s : List ℕ) (bs : Bytes s) (at : ℕ) where
  header_stood : (e : Entry) (c : Cursor) → header_at s at ≡ got_to e c → Stood IsHeader s at
  unfolding header_at
  header_stood e c =
      let P : Head → Type 0 = λ x. x ≡ got_to e c → Stood IsHeader s at in
      end_text P denied not_read s bs at 2 _ λ t r h l u.
      end8 P denied not_read s bs (at + 2 + length t) _ λ b g.
      end32 P denied not_read s bs (at + 2 + length t + 1) _ λ d k _.
      let p = digits 2 (length t) ++ t in
      record {
        label = Label.header t (eqb (bit_of b) 1);
        row = p ++ (b ∷ []);
        rest = drop (at + 2 + length t + 1 + 4) s;
        declared = d;
        kind = tt;
        head = flag_head b (bytes_here g bs).0 (short t l u);
        small = k.bound;
        here = ends_at (ends_at h (omega arith) g) (simp length-append (omega arith)) k.here;
      }

  message_stood : (e : Entry) (c : Cursor) → message_at s at ≡ got_to e c → Stood IsMessage s at
  unfolding message_at
  message_stood e c =
      let P : Head → Type 0 = λ x. x ≡ got_to e c → Stood IsMessage s at in
      end_text P denied not_read s bs at 2 _ λ t r h l u.
      end_text P denied not_read s bs (at + 2 + length t) 2 _ λ o p g k w.
      end32 P denied not_read s bs (at + 2 + length t + 2 + length o) _ λ d i _.
      let p = digits 2 (length t) ++ t in
      record {
        label = Label.message t o;
        row = p ++ (digits 2 (length o) ++ o);
        rest = drop (at + 2 + length t + 2 + length o + 4) s;
        declared = d;
        kind = tt;
        head = packet.Head.message (short t l u) (short o k w);
        small = i.bound;
        here = ends_at (ends_at h (omega arith) g) (simp length-append (omega arith)) i.here;
      }

-- ---- both, of a kind

pub record Kinded (kind : ℕ) (Kind : Label → Type 0) : Type 0 where
  pub stands : (s r : List ℕ) (at : ℕ) (l : Label) (x : List ℕ) (d : ℕ) → Kind l → packet.Head l x → d < 256 ^ 4 → Here s at (x ++ digits 4 d) r
      → Stands kind s at l x d
  pub stood : (s : List ℕ) → Bytes s → (at : ℕ) (e : Entry) (c : Cursor) → head_at kind s at ≡ got_to e c → Stood Kind s at

pub headers : Kinded 0x31 IsHeader
headers = record { stands = go; stood = header_stood }
  where
    go : (s r : List ℕ) (at : ℕ) (l : Label) (x : List ℕ) (d : ℕ) → IsHeader l → packet.Head l x → d < 256 ^ 4 → Here s at (x ++ digits 4 d) r
        → Stands 0x31 s at l x d
    go s r at l x d k (packet.Head.header_false (short t b u)) m h = header_stands t 0 d h b u m
    go s r at l x d k (packet.Head.header_true (short t b u)) m h = header_stands t 1 d h b u m
    go s r at l x d k (packet.Head.header_above f i j (short t b u)) m h = rw (lt-ltb 0 f (omega arith)) at (header_stands t f d h b u m)
    go s r at l x d k (packet.Head.message v w) m h = absurd k

pub messages : Kinded 0x32 IsMessage
messages = record { stands = go; stood = message_stood }
  where
    go : (s r : List ℕ) (at : ℕ) (l : Label) (x : List ℕ) (d : ℕ) → IsMessage l → packet.Head l x → d < 256 ^ 4 → Here s at (x ++ digits 4 d) r
        → Stands 0x32 s at l x d
    go s r at l x d k (packet.Head.header_false v) m h = absurd k
    go s r at l x d k (packet.Head.header_true v) m h = absurd k
    go s r at l x d k (packet.Head.header_above f i j v) m h = absurd k
    go s r at l x d k (packet.Head.message (short t b u) (short o c v)) m h = message_stands t o d h b u c v m
