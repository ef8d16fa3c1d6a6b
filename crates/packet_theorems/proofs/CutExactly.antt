-- The cut finds just the packets that their lengths cut exactly, whatever stands in their values of a known length; and a packet has exact lengths, or such that
-- are not known, just where it encodes a packet each of whose entries declares the length of its value, or that it is not known.
use Rattle.std.specs.Prelude.{◌+◌, ◌^◌, ◌≤◌, ◌<◌, ◌≡◌, ◌↔◌, ◌∷◌, ◌++◌}
use Rattle.wire.proofs.Kit.{ℕ, suc, refl, sym, ap, ap₂, ◌∙◌, List, [], append-nil, arith, le_refl, length}
use Rattle.wire.proofs.Kit.{length-append, length-drop, le-leb}
use Rattle.wire.specs.Number.{digits, Bytes}
use Rattle.wire.specs.Limit as limit
use Rattle.wire.proofs.Stands.{Here, there}
use Rattle.amf0_theorems.proofs.Theorems as amf0
use Rattle.packet.specs.declared.head.Entry.{Entry}
use Rattle.packet.specs.Packet.{Label, Item, Packet, IsHeader, IsMessage, Items, Encoded}
use Rattle.packet.specs.Entry.{reached, measured, walk, found, cut_of}
use Rattle.packet.specs.Head.{front_of}
use Rattle.packet.specs.Written.{Labelled}
use Rattle.packet_theorems.specs.Cuts.{Slice, Says, Slices, Cuts, entry_of, behind, entries_from, end_from, entries_of, Each, CutInto, Valued, Exact}
use Rattle.packet_theorems.specs.Refusal.{cut, Entries, IsPacket}
use Rattle.packet_theorems.proofs.Heads.{Kinded, headers, messages}
use Rattle.packet_theorems.proofs.Said.{says_small, entry_said}
use Rattle.packet_theorems.proofs.Items.{ExactItems, First, first, front, heads_one}
use Rattle.packet.proofs.Laws.{head_begun}
use Rattle.packet_theorems.proofs.Frame.{cut_read}
use Rattle.packet_theorems.proofs.Refusals.{cut_packet}
use Rattle.packet_theorems.proofs.Whole.{row_of, ExactPacket, Framed, framed, row_one}

-- ---- what is cut exactly is cut

-- the slices of two rows of entries, one behind the other
each_append : (b : List ℕ) (is js : List Slice) (es fs : List Entry) → Each b is es → Each b js fs → Each b (is ++ js) (es ++ fs)
each_append b [] js [] fs x y = y
each_append b [] js (e ∷ es) fs x y = absurd x
each_append b (i ∷ is) js [] fs x y = absurd x
each_append b (i ∷ is) js (e ∷ es) fs x y = (x.0, each_append b is js es fs x.1 y)

-- an entry is where its label is, whatever its length
measured_of : (at : ℕ) (l : Label) (d n : ℕ) → measured (entry_of at l d) n ≡ entry_of at l n
measured_of at (Label.header t f) d n = refl
measured_of at (Label.message t o) d n = refl

-- and has that label
measured_label : (s : List ℕ) (l : Label) (e : Entry) (n : ℕ) → Labelled s l e → Labelled s l (measured e n)
measured_label s (Label.header t f) e n h =
    record { kind = h.kind; bit = h.bit; first = h.first; no_place = h.no_place; no_length = h.no_length }
measured_label s (Label.message t o) e n h = record { kind = h.kind; bit = h.bit; first = h.first; second = h.second }

-- a walk over slices that stand from one place of s to another finds them
record Walks (kind : ℕ) (s : List ℕ) (is : List Slice) (at z : ℕ) : Type 0 where
  entries : List Entry
  walks : walk kind s (length is) at ≡ reached entries z
  placed : entries ≡ entries_from at is
  ends : z ≡ end_from at is
  each : Each s is entries

module _ {kind : ℕ} {Kind : Label → Type 0} (k : Kinded kind Kind) where
  -- slices that stand at a place are found
  slices_cut : {is : List Slice} {x : List ℕ} → Slices Kind is x → (s r : List ℕ) (at : ℕ) → length s ≤ limit.bytes → Here s at x r
      → Walks kind s is at (at + length x)
  unfolding walk
  slices_cut Slices.none s r at m h =
      let e : at + 0 ≡ at = omega arith in
      record { entries = []; walks = rw e; placed = refl; ends = e; each = tt }
  slices_cut (Slices.more {l} {d} {is} {x} {y} {z} t h w i) s r at m g =
      let f : First kind s at l x d y z r = first k t h (says_small w) g in
      go f (slices_cut i s r (f.head.entry.place + length y) m f.behind)
    where
      go : (f : First kind s at l x d y z r) → Walks kind s is (f.head.entry.place + length y) (f.head.entry.place + length y + length z)
          → Walks kind s (record { label = l; value = y } ∷ is) at (at + length (x ++ (digits 4 d ++ (y ++ z))))
      go f v =
          let e : Entry = measured f.head.entry (length y) in
          let p : ℕ = e.place in
          let o = (head_begun s at kind f.head.read).within in
          let same : e ≡ entry_of at l (length y) = ap (λ (a : Entry). measured a (length y)) f.head.is ∙ measured_of at l d (length y) in
          let next : p + length y ≡ behind (entry_of at l (length y)) = ap behind same in
          let fits : p + length y ≤ length s = omega (arith, length-drop p s, ap length f.value.same, length-append y (z ++ r)) in
          rw f.long
          (record {
            entries = e ∷ v.entries;
            walks = rw (entry_said kind at m f.head.read f.head.declared w f.value, v.walks);
            placed = ap₂ ◌∷◌ same (v.placed ∙ ap (λ q. entries_from q is) next);
            ends = v.ends ∙ ap (λ q. end_from q is) next;
            each = (
              record {
                label = measured_label s l f.head.entry (length y) f.head.labelled;
                inside = fits;
                long = refl;
                span = there (length y) f.value refl;
              },
              v.each,
            );
          })

-- what the cut finds: these slices, up to the last byte
pub record Finds (s : List ℕ) (hs ms : List Slice) : Type 0 where
  pub cut : cut_of s ≡ found (entries_of hs ms) (length s)
  pub each : Each s (hs ++ ms) (entries_of hs ms)

-- Every packet that its lengths cut exactly, within the limit, is cut, whatever its values of a known length are: into its headers and its messages.
pub cut_complete : (hs ms : List Slice) (s : List ℕ) → length s ≤ limit.bytes → Cuts hs ms s → Finds s hs ms
unfolding cut_of front_of
cut_complete hs ms s l (Cuts.packet {x} {y} hl ml hi mi) =
    let f : Framed s (length hs) (length ms) x y [] = framed (length hs) (length ms) x y hl ml (record { same = sym (append-nil s) }) in
    let h = slices_cut headers hi s _ 4 l f.headers_here in
    let m = slices_cut messages mi s [] (4 + length x + 2) l f.messages_here in
    let same : h.entries ++ m.entries ≡ entries_of hs ms = ap₂ ◌++◌ h.placed (m.placed ∙ ap (λ v. entries_from (v + 2) ms) h.ends) in
    let cut : cut_of s ≡ found (h.entries ++ m.entries) (length s) =
    rw (le-leb (length s) limit.bytes l, f.version, f.header_count, h.walks, f.message_count, m.walks, ← f.long, le-leb (length s) (length s) (le_refl (length s)), append-nil m.entries)
    in
    record { cut = cut ∙ ap (λ es. found es (length s)) same; each = rw same at (each_append s hs ms h.entries m.entries h.each m.each) }

-- ---- what is cut is cut exactly

-- a row with its counts given
pub cuts_row : {hs ms : List Slice} {x y s : List ℕ} (h m : ℕ) → h < 256 ^ 2 → m < 256 ^ 2 → length hs ≡ h → length ms ≡ m → Slices IsHeader hs x
    → Slices IsMessage ms y → s ≡ row_of h m x y → Cuts hs ms s
cuts_row {hs} {ms} h m hl ml hc mc hi mi e = rw (e, ← hc, ← mc) (Cuts.packet {hs = hs} {ms = ms} (rw hc hl) (rw mc ml) hi mi)

-- slices of a kind are entries that the cut goes over
slices_entries : {Kind : Label → Type 0} {is : List Slice} {x : List ℕ} → Slices Kind is x → Entries cut Kind (length is) x
slices_entries Slices.none = Entries.none
slices_entries (Slices.more {y} k h w i) = Entries.more {y = y} k h (says_small w) w (slices_entries i)

-- and it goes over no others
record Sliced (Kind : Label → Type 0) (n : ℕ) (x : List ℕ) : Type 0 where
  slices : List Slice
  stands : Slices Kind slices x
  count : length slices ≡ n

entries_slices : {Kind : Label → Type 0} {n : ℕ} {x : List ℕ} → Entries cut Kind n x → Sliced Kind n x
entries_slices Entries.none = record { slices = []; stands = Slices.none; count = refl }
entries_slices (Entries.more {l} {x} {y} k h b w z) =
    let i = entries_slices z in
    record {
      slices = record { label = l; value = y } ∷ i.slices;
      stands = Slices.more {x = x} {y = y} k h w i.stands;
      count = ap suc i.count;
    }

-- The cut goes over just the packets that their lengths cut exactly.
pub cuts_packet : (s : List ℕ) → IsPacket cut s ↔ (hs : List Slice) × (ms : List Slice) × Cuts hs ms s
cuts_packet s = (to, λ c. from c.2)
  where
    to : {s : List ℕ} → IsPacket cut s → (hs : List Slice) × (ms : List Slice) × Cuts hs ms s
    to (IsPacket.packet {h} {m} l hs k ms) =
        let a = entries_slices hs in
        let b = entries_slices ms in
        (a.slices, b.slices, cuts_row h m l k a.count b.count a.stands b.stands refl)

    from : {hs ms : List Slice} {s : List ℕ} → Cuts hs ms s → IsPacket cut s
    from (Cuts.packet hl ml hi mi) = IsPacket.packet hl (slices_entries hi) ml (slices_entries mi)

-- What the cut finds is a packet that its lengths cut exactly, within the limit, into the entries that it finds.
pub cut_sound : (s : List ℕ) (es : List Entry) (n : ℕ) → Bytes s → cut_of s ≡ found es n → CutInto s es
cut_sound s es n bs e = let c = (cuts_packet s).0 (cut_packet s es n bs e) in go c.0 c.1 c.2
  where
    go : (hs ms : List Slice) → Cuts hs ms s → CutInto s es
    go hs ms c =
        let small = (cut_read s es n e).small in
        let f = cut_complete hs ms s small c in
        let same : entries_of hs ms ≡ es = cc (sym f.cut ∙ e) in
        record { headers = hs; messages = ms; small = small; cuts = c; entries = sym same; each = rw same at f.each }

-- So the cut accepts just the packets that their lengths cut exactly, within the limit, and finds their entries.
pub cut_exactly : (s : List ℕ) (es : List Entry) → Bytes s → cut_of s ≡ found es (length s) ↔ CutInto s es
cut_exactly s es bs = (
  cut_sound s es (length s) bs,
  λ c. (cut_complete c.headers c.messages s c.small c.cuts).cut ∙ ap (λ x. found x (length s)) (sym c.entries),
)

-- ---- no other

-- a length says which of the bytes behind it are the value's
says_one : {d e : ℕ} {y z : List ℕ} (r q : List ℕ) → Says d y → Says e z → d ≡ e → y ++ r ≡ z ++ q → y ≡ z
says_one r q (Says.known {y} a) (Says.known {y = z} b) n e = (front y z r q e n).0
says_one r q (Says.known a) (Says.measured w) n e = absurd (omega arith)
says_one r q (Says.measured v) (Says.known b) n e = absurd (omega arith)
says_one r q (Says.measured {y} v) (Says.measured {y = z} w) n e = (amf0.unique v.tree w.tree y z r q v.encodes w.encodes e).1

slices_unique : {kind : ℕ} {Kind : Label → Type 0} {is js : List Slice} {x y : List ℕ} → Kinded kind Kind → Slices Kind is x → Slices Kind js y → (r q : List ℕ)
    → length is ≡ length js → x ++ r ≡ y ++ q → (is ≡ js) × (x ≡ y)
slices_unique k Slices.none Slices.none r q c e = (refl, refl)
slices_unique k Slices.none (Slices.more a b w i) r q c e = absurd (omega arith)
slices_unique k (Slices.more a b w i) Slices.none r q c e = absurd (omega arith)
slices_unique k (Slices.more {y = y} {z = z} a b w i) (Slices.more {y = y'} {z = z'} a' b' w' i') r q n e =
    let o = heads_one k a b (says_small w) a' b' (says_small w') y z r y' z' q e in
    let v = says_one (z ++ r) (z' ++ q) w w' o.declared o.behind in
    let u = (front y y' (z ++ r) (z' ++ q) o.behind (ap length v)).1 in
    let j = slices_unique k i i' r q (omega arith) u in
    (rw (o.label, v, j.0), rw (o.row, o.declared, v, j.1))

-- No row of bytes is cut exactly in two ways, and none that is begins another.
pub cuts_unique : {hs ms hs' ms' : List Slice} {x y : List ℕ} (r t : List ℕ) → Cuts hs ms x → Cuts hs' ms' y → x ++ r ≡ y ++ t
    → (hs ≡ hs') × (ms ≡ ms') × (x ≡ y)
cuts_unique r t (Cuts.packet {hs} {ms} {x} {y} hl ml hi mi) (Cuts.packet {hs = hs'} {ms = ms'} {x = x'} {y = y'} hl' ml' hi' mi') e =
    row_one (length hs) (length ms) (length hs') (length ms') x y x' y' r t hl ml hl' ml' e (slices_unique headers hi hi') (slices_unique messages mi mi')

-- ---- exact lengths

-- s encodes a packet, each entry of which declares the length of the bytes that encode its value, or that it is not known
pub record Declares (s : List ℕ) : Type 0 where
  pub packet : Packet
  pub encoded : Encoded packet s
  pub exact : ExactPacket encoded

-- entries that declare the lengths of their values, or that these are not known
record Itemed (Kind : Label → Type 0) (n : ℕ) (x : List ℕ) : Type 0 where
  items : List Item
  stands : Items Kind items x
  exact : ExactItems stands
  count : length items ≡ n

-- slices whose bytes encode values are such entries
itemed : {Kind : Label → Type 0} {is : List Slice} {x : List ℕ} → Slices Kind is x → Valued is → Itemed Kind (length is) x
itemed Slices.none v = record { items = []; stands = Items.none; exact = tt; count = refl }
itemed (Slices.more {l} {d} {x = x} {y} {z} k h w i) v =
    let m = itemed i v.1 in
    record {
      items = record { label = l; declared = d; value = v.0.0 } ∷ m.items;
      stands = Items.more {d = d} {x = x} {y = y} {z = z} k h (says_small w) v.0.1 m.stands;
      exact = (w, m.exact);
      count = ap suc m.count;
    }

-- slices whose bytes encode values
record Cutted (Kind : Label → Type 0) (n : ℕ) (x : List ℕ) : Type 0 where
  slices : List Slice
  stands : Slices Kind slices x
  values : Valued slices
  count : length slices ≡ n

-- such entries are such slices
cutted : {Kind : Label → Type 0} {is : List Item} {x : List ℕ} (i : Items Kind is x) → ExactItems i → Cutted Kind (length is) x
cutted Items.none o = record { slices = []; stands = Slices.none; values = tt; count = refl }
cutted (Items.more {l} {d} {v} {x} {y} {z} k h b e i) o =
    let m = cutted i o.1 in
    record {
      slices = record { label = l; value = y } ∷ m.slices;
      stands = Slices.more {y = y} k h o.0 m.stands;
      values = ((v, e), m.values);
      count = ap suc m.count;
    }

-- the packet, one way and the other
exact_declares : {hs ms : List Slice} {s : List ℕ} → Cuts hs ms s → Valued hs → Valued ms → Declares s
exact_declares (Cuts.packet {hs} {ms} {x} {y} hl ml hi mi) hv mv =
    let h = itemed hi hv in
    let m = itemed mi mv in
    rw (← h.count, ← m.count)
    (record {
      packet = record { headers = h.items; messages = m.items };
      encoded = Encoded.packet {hs = h.items} {ms = m.items} (rw h.count hl) (rw m.count ml) h.stands m.stands;
      exact = (h.exact, m.exact);
    })

declares_exact : {p : Packet} {s : List ℕ} (e : Encoded p s) → ExactPacket e → Exact s
declares_exact (Encoded.packet {hs} {ms} {x} {y} hl ml hi mi) o =
    let h = cutted hi o.0 in
    let m = cutted mi o.1 in
    record {
      headers = h.slices;
      messages = m.slices;
      cuts = cuts_row (length hs) (length ms) hl ml h.count m.count h.stands m.stands refl;
      header_values = h.values;
      message_values = m.values;
    }

-- A packet has exact lengths, or such that are not known, just where it encodes a packet each of whose entries declares the length of its value, or that it is
-- not known.
pub exactly_declares : (s : List ℕ) → Exact s ↔ Declares s
exactly_declares s = (λ x. exact_declares x.cuts x.header_values x.message_values, λ d. declares_exact d.encoded d.exact)
