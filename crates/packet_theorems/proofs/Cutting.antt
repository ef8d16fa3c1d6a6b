-- A packet that was written, in either setting, is cut into the entries that it was written of.
use Rattle.std.specs.Prelude.{◌≤◌, ◌<◌, ◌≡◌, ◌∷◌, ◌++◌}
use Rattle.wire.proofs.Kit.{ℕ, zero, suc, refl, ap, ◌∙◌, List, [], map, map-append, Bool, true, false, arith, length, get_or, length-map}
use lib.ListN.{get_or-map}
use Rattle.wire.specs.Limit as limit
use Rattle.image.specs.declared.record.Record.{Record}
use Rattle.amf0.specs.Standard.{Sort, Tree, depth, Encodes}
use Rattle.amf0.specs.Shown.{laid}
use Rattle.amf0.specs.Written as amf0
use Rattle.amf0_theorems.proofs.Puts.{laid_length, laid_size}
use Rattle.amf0_theorems.proofs.Shortest.{encoded}
use Rattle.packet.specs.declared.head.Entry.{Entry}
use Rattle.packet.specs.Packet.{Label, Item, Packet}
use Rattle.packet.specs.Shown.{counts, Shallow, Within}
use Rattle.packet.specs.Entry.{found, cut_of, no_entry}
use Rattle.packet.specs.Written.{length_of, write_items, write, Spells, Images, Parts, items_of, no_item}
use Rattle.packet_theorems.specs.Cuts.{Slice, Says, Slices, Cuts, entries_of, Each, Valued, Exact}
use Rattle.packet_theorems.proofs.CutExactly.{cuts_row, cut_complete}
use Rattle.packet_theorems.proofs.Shortest.{head, items_length, write_length}

-- ---- entries and what they were written of

-- an item as it is written: its label, and what its value is written as
abbrev slice_of : Item → Slice
slice_of i = record { label = i.label; value = amf0.write i.value }

-- what each value is written as encodes it
abbrev Encoding : List Item → Type 0
Encoding [] = Unit {0}
Encoding (i ∷ is) = Encodes Sort.value i.value (amf0.write i.value) × Encoding is

-- so its bytes encode a value
valued : (is : List Item) → Encoding is → Valued (map slice_of is)
valued [] x = tt
valued (i ∷ is) x = ((i.value, x.0), valued is x.1)

-- of two rows, one behind the other, and at a number
encoding_append : (is js : List Item) → Encoding is → Encoding js → Encoding (is ++ js)
encoding_append [] js x y = y
encoding_append (i ∷ is) js x y = (x.0, encoding_append is js x.1 y)

encoding_at : (is : List Item) (k : ℕ) → Encoding is → k < length is → let v = (get_or is k no_item).value in Encodes Sort.value v (amf0.write v)
encoding_at [] k x h = absurd (omega arith)
encoding_at (i ∷ is) zero x h = x.0
encoding_at (i ∷ is) (suc k) x h = encoding_at is k x.1 (omega arith)

-- there are as many entries as slices
each_count : (b : List ℕ) (is : List Slice) (es : List Entry) → Each b is es → length es ≡ length is
each_count b [] [] x = refl
each_count b [] (e ∷ es) x = absurd x
each_count b (i ∷ is) [] x = absurd x
each_count b (i ∷ is) (e ∷ es) x = ap suc (each_count b is es x.1)

-- the entry with a number has the label and the bytes of the slice with that number
each_at : (b : List ℕ) (is : List Slice) (es : List Entry) (k : ℕ) (d : Slice) → Each b is es → k < length es
    → Parts b (get_or is k d).label (get_or is k d).value (get_or es k no_entry)
each_at b [] [] k d x h = absurd (omega arith)
each_at b [] (e ∷ es) k d x h = absurd x
each_at b (i ∷ is) [] k d x h = absurd x
each_at b (i ∷ is) (e ∷ es) zero d x h = x.0
each_at b (i ∷ is) (e ∷ es) (suc k) d x h = each_at b is es k d x.1 (omega arith)

pub shallow_append : (n : ℕ) (is js : List Item) → Shallow n is → Shallow n js → Shallow n (is ++ js)
shallow_append n [] js x y = y
shallow_append n (i ∷ is) js x y = (x.0, shallow_append n is js x.1 y)

pub shallow_at : (n : ℕ) (is : List Item) (k : ℕ) → Shallow n is → k < length is → depth (get_or is k no_item).value ≤ n
shallow_at n [] k x h = absurd (omega arith)
shallow_at n (i ∷ is) zero x h = x.0
shallow_at n (i ∷ is) (suc k) x h = shallow_at n is k x.1 (omega arith)

-- ---- what is written is cut exactly

-- the length that a value is written with says what it is written as
says : (exact : Bool) (v : Tree Sort.value) → length (amf0.write v) ≤ limit.bytes → Encodes Sort.value v (amf0.write v) → depth v ≤ limit.levels
    → Says (length_of exact v) (amf0.write v)
says true v h e d = Says.known {y = amf0.write v} (omega arith)
says false v h e d = Says.measured (record { tree = v; encodes = e; deep = d })

-- what entries are written as is a row of slices
record Sliced (exact : Bool) (Kind : Label → Type 0) (is : List Item) : Type 0 where
  stands : Slices Kind (map slice_of is) (write_items exact is)
  encoding : Encoding is

items_sliced : (exact : Bool) {Kind : Label → Type 0} {s : List ℕ} {is : List Item} {rs : List Record} → Spells s Kind is rs → length (laid rs) ≤ limit.image
    → length (write_items exact is) ≤ limit.bytes → Shallow limit.levels is → Sliced exact Kind is
items_sliced exact Spells.none i j deep = record { stands = Slices.none; encoding = tt }
items_sliced exact (Spells.more {l} {d} {v} {is} {r} {rs} {qs} t f n g c y) i j deep =
    let u = laid_length rs qs in
    let w = laid_size r (rs ++ qs) in
    let m = items_length exact (record { label = l; declared = d; value = v }) is in
    let q = items_sliced exact y (omega arith) (omega arith) deep.1 in
    let e = encoded c g (omega arith) in
    record {
      stands = Slices.more {y = amf0.write v} t (head n f) (says exact v (omega arith) e deep.0) q.stands;
      encoding = (e, q.encoding);
    }

-- ---- the packet

-- the lengths of b are exact or not known, and its cut finds the entries of p, one by one
pub record Found (b : List ℕ) (p : Packet) : Type 0 where
  pub exact : Exact b
  pub entries : List Entry
  pub cut : cut_of b ≡ found entries (length b)
  pub count : length entries ≡ length (items_of p)
  pub each : (k : ℕ) → k < length entries → let i = get_or (items_of p) k no_item in Parts b i.label (amf0.write i.value) (get_or entries k no_entry)
  pub encodes : (k : ℕ) → k < length entries → let v = (get_or (items_of p) k no_item).value in Encodes Sort.value v (amf0.write v)

-- what a packet is written as, with exact lengths or without
pub packet_cut : (exact : Bool) {s image : List ℕ} {p : Packet} → Images s p image → length image ≤ limit.image → length (write exact p) ≤ limit.bytes
    → Within limit.levels p → Found (write exact p) p
packet_cut exact {p = p} m i l deep =
    let b : List ℕ = write exact p in
    let hs : List Item = p.headers in
    let ms : List Item = p.messages in
    let u = laid_size (counts p) (m.header_records ++ m.message_records) in
    let w = laid_length m.header_records m.message_records in
    let c = ap length m.lies in
    let n = write_length exact p in
    let hi = items_sliced exact m.headers (omega arith) (omega arith) deep.0 in
    let mi = items_sliced exact m.messages (omega arith) (omega arith) deep.1 in
    let x : Cuts (map slice_of hs) (map slice_of ms) b =
    cuts_row (length hs) (length ms) m.fits.a m.fits.b (length-map hs slice_of) (length-map ms slice_of) hi.stands mi.stands refl in
    let f = cut_complete (map slice_of hs) (map slice_of ms) b l x in
    let es : List Entry = entries_of (map slice_of hs) (map slice_of ms) in
    let each : Each b (map slice_of (items_of p)) es = rw (map-append slice_of hs ms) f.each in
    let count : length es ≡ length (items_of p) = each_count b (map slice_of (items_of p)) es each ∙ length-map (items_of p) slice_of in
    record {
      exact =
          record {
            headers = map slice_of hs;
            messages = map slice_of ms;
            cuts = x;
            header_values = valued hs hi.encoding;
            message_values = valued ms mi.encoding;
          };
      entries = es;
      cut = f.cut;
      count = count;
      each = λ k h. rw (get_or-map slice_of (items_of p) k no_item) at (each_at b (map slice_of (items_of p)) es k (slice_of no_item) each h);
      encodes = λ k h. encoding_at (items_of p) k (encoding_append hs ms hi.encoding mi.encoding) (omega arith);
    }
