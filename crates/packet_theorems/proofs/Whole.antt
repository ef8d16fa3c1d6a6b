-- The whole packet against the standard's: what encodes a packet is read as it, and what was read encodes one.
use Rattle.std.specs.Prelude.{◌+◌, ◌^◌, ◌≤◌, ◌<◌, ◌≡◌, ◌∷◌, ◌++◌, Ok, Result}
use Rattle.wire.proofs.Kit.{ℕ, refl, sym, ap, ◌∙◌, List, [], arith, length, drop, length-append, eqb, lit<, eqb-true, map}
use Rattle.wire.proofs.Kit.{map-append}
use Rattle.wire.specs.Number.{digits, Bytes}
use Rattle.wire.specs.Limit as limit
use Rattle.wire.specs.Field.{to, u16_at, tag_at, got, got_to}
use Rattle.wire.specs.declared.cursor.Cursor.{Cursor}
use Rattle.wire.proofs.Laws.{picked, u16_next, tag_next, same_held}
use Rattle.wire.proofs.Stands.{Here, cut, skip, tag_at_lem, byte_at, u16_at_lem, tag_ends, end8, u16_ends}
use Rattle.image.specs.Due.{Due, stop, Ends}
use Rattle.image.specs.Whole.{bytes}
use Rattle.amf0_theorems.proofs.Sound.{bind_ends, ends_at}
use Rattle.packet.specs.Head.{version_at}
use Rattle.packet.specs.Packet.{Item, Packet, IsHeader, IsMessage, Items, Encoded}
use Rattle.packet.specs.Shown.{ShowsPacket, Within, counts}
use Rattle.packet.specs.Reading.{entries_at, packet_at}
use Rattle.packet_theorems.proofs.Same.{on_field, on_tag, not_read}
use Rattle.packet_theorems.proofs.Heads.{headers, messages}
use Rattle.packet_theorems.proofs.Agree.{count_after_lem, Exacts}
use Rattle.packet_theorems.proofs.Items.{ExactItems, Told, items_told, Exacted, items_found, items_unique, of_items}
use Rattle.amf0_theorems.proofs.Spans.{ends_bind}
use Rattle.image.proofs.Settle.{bytes_bind}
use Rattle.image.specs.declared.record.Record.TheVariants as R
use Rattle.image.specs.Record.{bytes_of, unplaced}
use Rattle.image.specs.Taking.{Fits}
use Rattle.amf0_theorems.proofs.Puts.{laid_append}
use Rattle.packet.specs.Written.{Images}
use Rattle.image.specs.declared.record.Record.{Record}
use Rattle.wire.specs.Answer.{denied, Verdict}

-- ---- what stands there

-- the row of bytes of a packet with headers x and messages y
abbrev pub row_of : ℕ → ℕ → List ℕ → List ℕ → List ℕ
row_of h m x y = 0x00 ∷ 0x00 ∷ digits 2 h ++ (x ++ (digits 2 m ++ y))

-- the fields of a packet round its headers x and messages y, as they are read; r stands behind it
pub record Framed (s : List ℕ) (h m : ℕ) (x y r : List ℕ) : Type 0 where
  pub version : version_at s ≡ Ok (to 2)
  pub header_count : u16_at s 2 ≡ got_to h (to 4)
  pub headers_here : Here s 4 x ((digits 2 m ++ y) ++ r)
  pub message_count : u16_at s (4 + length x) ≡ got_to m (to (4 + length x + 2))
  pub messages_here : Here s (4 + length x + 2) y r
  pub long : length (row_of h m x y) ≡ 4 + length x + 2 + length y

pub framed : {s r : List ℕ} (h m : ℕ) (x y : List ℕ) → h < 256 ^ 2 → m < 256 ^ 2 → Here s 0 (row_of h m x y) r → Framed s h m x y r
unfolding version_at
framed {s} {r} h m x y b c all =
    let z : List ℕ = digits 2 m ++ y in
    let w : List ℕ = digits 2 h ++ (x ++ z) in
    let second : Here s 1 (0 ∷ w) r = skip (0 ∷ []) (0 ∷ w) all in
    let third : Here s 2 w r = skip (0 ∷ []) w second in
    let fourth : Here s 4 (x ++ z) r = skip (digits 2 h) (x ++ z) third in
    let next : Here s (4 + length x) z r = skip x z fourth in
    record {
      version = rw (tag_at_lem (0 ∷ []) (cut (0 ∷ []) (0 ∷ w) all) (omega arith), byte_at 0 (cut (0 ∷ []) w second));
      header_count = u16_at_lem h (cut (digits 2 h) (x ++ z) third) b;
      headers_here = cut x z fourth;
      message_count = u16_at_lem m (cut (digits 2 m) y next) c;
      messages_here = skip (digits 2 m) y next;
      long = simp length-append (omega arith);
    }

-- every entry of a packet declares the length of the bytes that encode its value, or that it is not known
abbrev pub ExactPacket : {p : Packet} {s : List ℕ} → Encoded p s → Type 0
ExactPacket (Encoded.packet h m hs ms) = ExactItems hs × ExactItems ms

-- the records of a packet, but for places
abbrev pub of_packet : Packet → List Record
of_packet p = counts p ∷ (of_items p.headers ++ of_items p.messages)

-- the image of a packet that was read
pub record PacketImage (s : List ℕ) (p : Packet) (image : List ℕ) : Type 0 where
  pub images : Images s p image
  pub alike : map unplaced (counts p ∷ (images.header_records ++ images.message_records)) ≡ of_packet p

-- a packet that stands at the front of s is read up to n, and its image shows it; X says that its lengths are exact or not known
pub record ToldPacket (p : Packet) (s : List ℕ) (n : ℕ) (X : Type 0) : Type 0 where
  pub ends : Ends (packet_at s) n
  pub shows : length s ≤ limit.bytes → ShowsPacket s p (bytes (packet_at s))
  pub imaged : length s ≤ limit.bytes → PacketImage s p (bytes (packet_at s))
  pub exact : X → n ≡ length s → Exacts s

exacts : {s : List ℕ} {h m : ℕ} {x y r : List ℕ} → Framed s h m x y r → Exacted 0x31 s h 4 (4 + length x) → Exacted 0x32 s m (4 + length x + 2) (length s) → Exacts s
exacts {x = x} f a b =
    record {
      headers = a.entries;
      messages = b.entries;
      c = to 2;
      q = to 4;
      f = to (4 + length x + 2);
      next = 4 + length x;
      version = f.version;
      header_count = rw a.count f.header_count;
      header_values = a.exactly;
      message_count = rw b.count f.message_count;
      message_values = b.exactly;
    }

told_whole : {hs ms : List Item} {x y r : List ℕ} (s : List ℕ) (hi : Items IsHeader hs x) (mi : Items IsMessage ms y) → Framed s (length hs) (length ms) x y r
    → length hs < 256 ^ 2 → length ms < 256 ^ 2
    → Told 0x31 hi s 4 (4 + length x) → Told 0x32 mi s (4 + length x + 2) (4 + length x + 2 + length y)
    → ToldPacket (record { headers = hs; messages = ms }) s (4 + length x + 2 + length y) (ExactItems hi × ExactItems mi)
unfolding packet_at bytes
told_whole {hs} {ms} {x} {y} s hi mi f hl ml a b =
    let d : Due = entries_at 0x31 s (length hs) 4 in
    let k : ℕ → Due = λ n. got stop (u16_at s n) (entries_at 0x32 s) in
    let fits : Fits (R.Packet (length hs) (length ms)) = record { a = hl; b = ml; c = lit< tt; d = lit< tt; zone = λ n z e. cc } in
    let same : bytes (packet_at s) ≡ bytes_of (R.Packet (length hs) (length ms)) ++ (bytes d ++ bytes (entries_at 0x32 s (length ms) (4 + length x + 2))) =
    rw (
      f.version,
      f.header_count,
      count_after_lem s d (4 + length x) (length ms) (to (4 + length x + 2)) a.ends f.message_count,
      bytes_bind d k (4 + length x) a.ends,
      f.message_count,
    ) in
    record {
      ends = rw (f.version, f.header_count) (ends_bind d k (4 + length x) (4 + length x + 2 + length y) a.ends (rw f.message_count b.ends));
      shows = λ l. rw same (ShowsPacket.packet fits (a.shows l) (b.shows l));
      imaged = λ l.
          let h = a.imaged l in
          let m = b.imaged l in
          record {
            images =
                record {
                  header_records = h.records;
                  message_records = m.records;
                  fits = fits;
                  headers = h.spells;
                  messages = m.spells;
                  lies = rw (same, laid_append h.records m.records, h.lies, m.lies);
                };
            alike = rw (map-append unplaced h.records m.records, h.alike, m.alike);
          };
      exact = λ o e. exacts f (a.exact o.0) (rw e at (b.exact o.1));
    }

pub packet_told : {p : Packet} {x : List ℕ} (s r : List ℕ) (e : Encoded p x) → Here s 0 x r → Within limit.levels p → ToldPacket p s (length x) (ExactPacket e)
packet_told s r (Encoded.packet {hs} {ms} {x} {y} hl ml hi mi) h deep =
    let f = framed (length hs) (length ms) x y hl ml h in
    rw f.long (told_whole s hi mi f hl ml (items_told headers hi s ((digits 2 (length ms) ++ y) ++ r) 4 f.headers_here deep.0)
    (items_told messages mi s r (4 + length x + 2) f.messages_here deep.1))

-- ---- what was read

-- a packet within the limit of depth stands at the front of s, up to n
pub record FoundPacket (s : List ℕ) (n : ℕ) : Type 0 where
  pub packet : Packet
  pub row : List ℕ
  pub rest : List ℕ
  pub encoded : Encoded packet row
  pub here : Here s 0 row rest
  pub next : n ≡ length row
  pub within : Within limit.levels packet

version_stood : (s : List ℕ) (c : Cursor) → Bytes s → version_at s ≡ Ok c → (c.at ≡ 2) × Here s 0 (0 ∷ 0 ∷ []) (drop 2 s)
unfolding version_at
version_stood s c bs =
    let P : Result Cursor Verdict → Type 0 = λ x. x ≡ Ok c → (c.at ≡ 2) × Here s 0 (0 ∷ 0 ∷ []) (drop 2 s) in
    on_tag P denied not_read (tag_at (0 ∷ []) s 0) _ λ d h.
    let a = tag_next s 0 (0 ∷ []) d h in
    end8 P denied not_read s bs d.at _ λ b g.
    picked P (eqb b 0) _ _
    (λ t q.
    let one : d.at ≡ 1 = omega arith in
    let is : to (d.at + 1) ≡ c = cc in
    let at_c : d.at + 1 ≡ c.at = ap (λ (x : Cursor). x.at) is in
    (omega arith, ends_at (tag_ends (0 ∷ []) s 0 d h) (omega arith) (rw (eqb-true b 0 t, one) at g)))
    (λ t. picked P (eqb b 3) _ _ (λ t. not_read _ _) (λ t. not_read _ _))

pub encoded_row : {hs ms : List Item} {x y : List ℕ} (h m : ℕ) → h < 256 ^ 2 → m < 256 ^ 2 → length hs ≡ h → length ms ≡ m
    → Items IsHeader hs x → Items IsMessage ms y → Encoded (record { headers = hs; messages = ms }) (row_of h m x y)
encoded_row {hs} {ms} h m hl ml hc mc hi mi = rw (← hc, ← mc) (Encoded.packet {hs = hs} {ms = ms} (rw hc hl) (rw mc ml) hi mi)

pub packet_found : (s : List ℕ) (z : ℕ) → Bytes s → Ends (packet_at s) z → FoundPacket s z
unfolding packet_at
packet_found s z bs =
    let P : Due → Type 0 = λ d. Ends d z → FoundPacket s z in
    on_tag P stop (λ a p e. absurd e) (version_at s) _ λ c v.
    on_field P stop (λ a p e. absurd e) (u16_at s c.at) _ λ h q g ends.
    bind_ends (entries_at 0x31 s h q.at) (λ n. got stop (u16_at s n) (entries_at 0x32 s)) z ends λ n a.
    on_field P stop (λ a p e. absurd e) (u16_at s n) _ λ m f k b.
    let vs = version_stood s c bs v in
    let hc = u16_ends s bs c.at h q g in
    let hn = u16_next s c.at h q g in
    let mc = u16_ends s bs n m f k in
    let mn = u16_next s n m f k in
    let hi = items_found headers s bs h q.at n a in
    let mi = items_found messages s bs m f.at z b in
    record {
      packet = record { headers = hi.items; messages = mi.items };
      row = row_of h m hi.row mi.row;
      rest = mi.rest;
      encoded = encoded_row h m hc.bound mc.bound hi.count mi.count hi.encodes mi.encodes;
      here = ends_at vs.1 vs.0 (ends_at hc.here hn.next (ends_at hi.here hi.next (ends_at mc.here mn.next mi.here)));
      next = simp length-append (omega (arith, mi.next, mn.next, hi.next, hn.next, vs.0));
      within = (hi.shallow, mi.shallow);
    }

-- ---- no other

-- two packets that begin the same bytes have as many headers and messages, and are the same bytes where these are
pub row_one : {A B : Type 0} (h m h' m' : ℕ) (x y x' y' r t : List ℕ) → h < 256 ^ 2 → m < 256 ^ 2 → h' < 256 ^ 2 → m' < 256 ^ 2
    → row_of h m x y ++ r ≡ row_of h' m' x' y' ++ t → ((r q : List ℕ) → h ≡ h' → x ++ r ≡ x' ++ q → A × (x ≡ x'))
    → ((r q : List ℕ) → m ≡ m' → y ++ r ≡ y' ++ q → B × (y ≡ y')) → A × B × (row_of h m x y ≡ row_of h' m' x' y')
row_one h m h' m' x y x' y' r t hl ml hl' ml' e hu mu =
    let s = row_of h m x y ++ r in
    let a : Framed s h m x y r = framed h m x y hl ml (record { same = refl }) in
    let b : Framed s h' m' x' y' t = framed h' m' x' y' hl' ml' (record { same = e }) in
    let hc : h ≡ h' = same_held (sym a.header_count ∙ b.header_count) in
    let u = hu ((digits 2 m ++ y) ++ r) ((digits 2 m' ++ y') ++ t) hc (sym a.headers_here.same ∙ b.headers_here.same) in
    let long : 4 + length x ≡ 4 + length x' = ap (λ w. 4 + length w) u.1 in
    let mc : m ≡ m' = same_held (sym a.message_count ∙ (ap (u16_at s) long ∙ b.message_count)) in
    let v = mu r t mc (sym a.messages_here.same ∙ (ap (λ n. drop (n + 2) s) long ∙ b.messages_here.same)) in
    (u.0, v.0, rw (hc, mc, u.1, v.1))

pub packet_unique : {p q : Packet} {x y : List ℕ} (r t : List ℕ) → Encoded p x → Encoded q y → x ++ r ≡ y ++ t → (p ≡ q) × (x ≡ y)
packet_unique r t (Encoded.packet {hs} {ms} {x} {y} hl ml hi mi) (Encoded.packet {hs = hs'} {ms = ms'} {x = x'} {y = y'} hl' ml' hi' mi') e =
    let u = row_one (length hs) (length ms) (length hs') (length ms') x y x' y' r t hl ml hl' ml' e (items_unique headers hi hi') (items_unique messages mi mi') in
    (rw (u.0, u.1), u.2)

-- so what is read of a packet goes to no depth over the limit
pub packet_shallow : {p : Packet} {x : List ℕ} (s r : List ℕ) → Encoded p x → Here s 0 x r → Bytes s → (z : ℕ) → Ends (packet_at s) z → Within limit.levels p
packet_shallow s r e h bs z ends =
    let f = packet_found s z bs ends in
    rw (packet_unique f.rest r f.encoded e (sym f.here.same ∙ h.same)).0 at f.within
