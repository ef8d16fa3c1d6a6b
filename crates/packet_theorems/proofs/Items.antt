-- Entries in a row against the standard's packet: what stands there is read and shown, what was read stood there, and it is no other.
use Rattle.std.specs.Prelude.{◌+◌, ◌^◌, ◌≤◌, ◌<◌, ◌≡◌, ◌∷◌, ◌++◌}
use Rattle.wire.proofs.Kit.{ℕ, zero, suc, refl, sym, ap, ap₂, ◌∙◌, List, [], append_assoc, arith, length, take, drop}
use Rattle.wire.proofs.Kit.{length-append, take-append_seam, drop-append_seam, map, map-append, true, false}
use Rattle.wire.specs.Number.{digits, Bytes}
use Rattle.wire.specs.Limit as limit
use Rattle.wire.specs.Field.{to}
use Rattle.wire.specs.declared.cursor.Cursor.{Cursor}
use Rattle.wire.proofs.Stands.{Here, cut, skip}
use Rattle.image.specs.declared.record.Record.{Record}
use Rattle.image.specs.Due.{stop, Ends}
use Rattle.image.specs.Whole.{bytes}
use Rattle.amf0.specs.Reading.{top_value}
use Rattle.amf0.specs.Shown.{Shows, laid}
use Rattle.amf0_theorems.proofs.Telling as telling
use Rattle.amf0_theorems.proofs.Spelling.{shown, spelled}
use Rattle.amf0_theorems.proofs.Sound as soundness
use Rattle.amf0_theorems.proofs.Theorems as amf0
use Rattle.amf0_theorems.proofs.Sound.{bind_ends, ends_at}
use Rattle.amf0_theorems.proofs.Spans.{ends_bind}
use Rattle.packet.specs.declared.head.Entry.{Entry}
use Rattle.packet.specs.Head.{head_at}
use Rattle.packet.specs.Packet.{Label, Item, Items}
use Rattle.packet.specs.Packet as packet
use Rattle.packet.specs.Shown.{Names, ShowsItems, Shallow}
use Rattle.packet.specs.Reading.{record_of, entries_at}
use Rattle.packet.specs.Entry.{measured}
use Rattle.packet_theorems.specs.Cuts.{Says}
use Rattle.packet_theorems.proofs.Same.{on_field}
use Rattle.packet_theorems.proofs.Heads.{Stands, Kinded, group}
use Rattle.packet_theorems.proofs.Agree.{Exactly}
use Rattle.image.proofs.Settle.{bytes_bind}
use Rattle.image.specs.declared.record.Record.TheVariants as R
use Rattle.image.specs.Record.{unplaced}
use Rattle.amf0_theorems.proofs.Telling.{records_of, bytes_laid}
use Rattle.amf0_theorems.proofs.Alike.{of_tree_lem, Of, read}
use Rattle.amf0_theorems.proofs.Puts.{laid_append}
use Rattle.packet.specs.Written.{Labelled, Spells}
use Rattle.wire.proofs.Laws.{same_held, same_behind}

-- ---- what stands there

-- the first entry of a row that stands at a place: its head, its value and what is behind
pub record First (kind : ℕ) (s : List ℕ) (at : ℕ) (l : Label) (x : List ℕ) (d : ℕ) (y z r : List ℕ) : Type 0 where
  pub head : Stands kind s at l x d
  pub value : Here s head.entry.place y (z ++ r)
  pub behind : Here s (head.entry.place + length y) z r
  pub long : at + length (x ++ (digits 4 d ++ (y ++ z))) ≡ head.entry.place + length y + length z

-- entries whose lengths are exact or not known, as the whole reading reads them
pub record Exacted (kind : ℕ) (s : List ℕ) (n at z : ℕ) : Type 0 where
  pub entries : List Entry
  pub count : length entries ≡ n
  pub exactly : Exactly kind s entries at z

-- every entry in a row declares the length of the bytes that encode its value, or that it is not known
abbrev pub ExactItems : {Kind : Label → Type 0} {is : List Item} {x : List ℕ} → Items Kind is x → Type 0
ExactItems Items.none = Unit {0}
ExactItems (Items.more {d} {y} k h b v i) = Says d y × ExactItems i

-- the records of entries, but for places
abbrev of_label : Label → Record
of_label (Label.header name flag) = R.Header 0 (length name) flag
of_label (Label.message target response) = R.Message 0 (length target) 0 (length response)

abbrev pub of_items : List Item → List Record
of_items [] = []
of_items (i ∷ is) = of_label i.label ∷ (of_tree_lem i.value [] ++ of_items is)

-- the record of an entry is known by its label but for places
record_alike : (s : List ℕ) (l : Label) (e : Entry) → Labelled s l e → unplaced (record_of e) ≡ of_label l
record_alike s (Label.header name true) e g = rw (g.kind, g.bit) (ap (λ k. R.Header 0 k true) g.first.long)
record_alike s (Label.header name false) e g = rw (g.kind, g.bit) (ap (λ k. R.Header 0 k false) g.first.long)
record_alike s (Label.message target response) e g = rw g.kind (ap₂ (λ k j. R.Message 0 k 0 j) g.first.long g.second.long)

-- image bytes of entries that were read
pub record Imaged (Kind : Label → Type 0) (s : List ℕ) (is : List Item) (image : List ℕ) : Type 0 where
  pub records : List Record
  pub spells : Spells s Kind is records
  pub alike : map unplaced records ≡ of_items is
  pub lies : image ≡ laid records

-- a row of entries that stands at a place is read, and its image shows it
pub record Told (kind : ℕ) {Kind : Label → Type 0} {is : List Item} {x : List ℕ} (i : Items Kind is x) (s : List ℕ) (at z : ℕ) : Type 0 where
  pub ends : Ends (entries_at kind s (length is) at) z
  pub shows : length s ≤ limit.bytes → ShowsItems s is (bytes (entries_at kind s (length is) at))
  pub imaged : length s ≤ limit.bytes → Imaged Kind s is (bytes (entries_at kind s (length is) at))
  pub exact : ExactItems i → Exacted kind s (length is) at z

module _ {kind : ℕ} {Kind : Label → Type 0} (k : Kinded kind Kind) where
  pub first : {s : List ℕ} {at d : ℕ} {l : Label} {x y z r : List ℕ} → Kind l → packet.Head l x → d < 256 ^ 4 → Here s at (x ++ (digits 4 d ++ (y ++ z))) r
      → First kind s at l x d y z r
  first {s} {at} {d} {l} {x} {y} {z} {r} is h b g =
      let f = x ++ digits 4 d in
      let g : Here s at (f ++ (y ++ z)) r = record { same = g.same ∙ ap (λ w. w ++ r) (sym (append_assoc x (digits 4 d) (y ++ z))) } in
      let st = k.stands s ((y ++ z) ++ r) at l x d is h b (cut f (y ++ z) g) in
      let e : at + length f ≡ st.entry.place = simp length-append (omega (arith, st.place)) in
      let v : Here s st.entry.place (y ++ z) r = rw e at (skip f (y ++ z) g) in
      record { head = st; value = cut y z v; behind = skip y z v; long = simp length-append (omega (arith, st.place)) }

  pub items_told : {is : List Item} {x : List ℕ} (i : Items Kind is x) (s r : List ℕ) (at : ℕ) → Here s at x r → Shallow limit.levels is
      → Told kind i s at (at + length x)
  unfolding entries_at bytes
  items_told Items.none s r at h deep =
      let e : at + 0 ≡ at = omega arith in
      record {
        ends = e;
        shows = λ l. ShowsItems.none;
        imaged = λ l. record { records = []; spells = Spells.none; alike = refl; lies = refl };
        exact = λ t. record { entries = []; count = refl; exactly = rw e Exactly.none };
      }
  items_told (Items.more {l} {d} {v} {is} {x} {y} {z} is_kind h b e i) s r at g deep =
      let f : First kind s at l x d y z r = first is_kind h b g in
      let p = f.head.entry.place in
      go f (telling.reads limit.levels s (z ++ r) p e f.value deep.0) (shown s (z ++ r) p e f.value deep.0)
      (read s y (z ++ r) p e f.value deep.0) (items_told i s r (p + length y) f.behind deep.1)
    where
      go : (f : First kind s at l x d y z r) → telling.Reads limit.levels s f.head.entry.place (f.head.entry.place + length y) v
          → (length s ≤ limit.bytes → Shows s v (bytes (top_value s f.head.entry.place))) → (length s ≤ limit.bytes → Of s f.head.entry.place v)
          → Told kind i s (f.head.entry.place + length y) (f.head.entry.place + length y + length z)
          → Told kind (Items.more {l = l} {d = d} {v = v} {is = is} {x = x} {y = y} {z = z} is_kind h b e i) s at (at + length (x ++ (digits 4 d ++ (y ++ z))))
      go f a w o t =
          let p = f.head.entry.place in
          let u = top_value s p in
          let same = bytes_bind u (entries_at kind s (length is)) (p + length y) a.ends in
          rw f.long (record {
            ends = rw f.head.read (ends_bind u (entries_at kind s (length is)) (p + length y) (p + length y + length z) a.ends t.ends);
            shows = λ b. rw (f.head.read, same) (ShowsItems.more (f.head.fits b) f.head.names (w b) (t.shows b));
            imaged = λ b.
                let m = t.imaged b in
                record {
                  records = record_of f.head.entry ∷ (records_of u ++ m.records);
                  spells = Spells.more is_kind (f.head.fits b) f.head.names (o b).right (spelled s v (records_of u) a.tells) m.spells;
                  alike = rw (record_alike s l f.head.entry f.head.labelled, map-append unplaced (records_of u) m.records, (o b).same, m.alike);
                  lies = rw (f.head.read, same, laid_append (records_of u) m.records, m.lies, bytes_laid u);
                };
            exact = λ x.
                let m = t.exact x.1 in
                record {
                  entries = measured f.head.entry (length y) ∷ m.entries;
                  count = ap suc m.count;
                  exactly = Exactly.more f.head.read f.head.declared x.0 f.value a.ends m.exactly;
                };
          })

-- ---- what was read

-- from the place `at` of s to z stand n entries, with values within the limit of depth
pub record Found (Kind : Label → Type 0) (s : List ℕ) (n at z : ℕ) : Type 0 where
  pub items : List Item
  pub row : List ℕ
  pub rest : List ℕ
  pub encodes : Items Kind items row
  pub here : Here s at row rest
  pub count : length items ≡ n
  pub next : z ≡ at + length row
  pub shallow : Shallow limit.levels items

module _ {kind : ℕ} {Kind : Label → Type 0} (k : Kinded kind Kind) (s : List ℕ) (bs : Bytes s) where
  pub items_found : (n at z : ℕ) → Ends (entries_at kind s n at) z → Found Kind s n at z
  unfolding entries_at
  items_found zero at z = λ e.
      record { items = []; row = []; rest = drop at s; encodes = Items.none; here = record { same = refl }; count = refl; next = omega arith; shallow = tt }
  items_found (suc n) at z =
      on_field (λ d. Ends d z → Found Kind s (suc n) at z) stop (λ a p e. absurd e) (head_at kind s at) _ λ e c h ends.
      let a = k.stood s bs at e c h in
      let b = k.stands s a.rest at a.label a.row a.declared a.kind a.head a.small a.here in
      let is : to b.entry.place ≡ c = same_behind (sym b.read ∙ h) in
      let at_p : c.at ≡ b.entry.place = ap (λ (x : Cursor). x.at) (sym is) in
      bind_ends (top_value s c.at) (entries_at kind s n) z ends λ m f g.
      let v = soundness.sound limit.levels s c.at m bs f in
      let r = items_found n m z g in
      let d = digits 4 a.declared in
      let e : c.at ≡ at + length (a.row ++ d) = simp length-append (omega (arith, b.place)) in
      record {
        items = record { label = a.label; declared = a.declared; value = v.tree } ∷ r.items;
        row = a.row ++ (d ++ (v.row ++ r.row));
        rest = r.rest;
        encodes = Items.more a.kind a.head a.small v.encodes r.encodes;
        here = group a.row d (v.row ++ r.row) (ends_at a.here e (ends_at v.here v.next r.here));
        count = ap suc r.count;
        next = simp length-append (omega (arith, r.next, v.next, simp length-append at e));
        shallow = (v.deep, r.shallow);
      }

-- ---- no other

-- two rows that begin the same bytes, and are as long
pub front : (x y r q : List ℕ) → x ++ r ≡ y ++ q → length x ≡ length y → (x ≡ y) × (r ≡ q)
front x y r q e l = (
  sym (take-append_seam x r) ∙ (ap₂ take l e ∙ take-append_seam y q),
  sym (drop-append_seam x r) ∙ (ap₂ drop l e ∙ drop-append_seam y q),
)

-- a record is that of one label
pub names_one : {s : List ℕ} {l o : Label} {a b : Record} → Names s l a → Names s o b → a ≡ b → l ≡ o
names_one (Names.header f h x) (Names.header g i y) e = cc
names_one (Names.header f h x) (Names.message i j y z) e = let z : ◌≡◌ {A = ℕ} 0 1 = cc in absurd (omega arith)
names_one (Names.message h j x y) (Names.header f i z) e = let z : ◌≡◌ {A = ℕ} 0 1 = cc in absurd (omega arith)
names_one (Names.message h i x y) (Names.message j k z w) e = cc

-- the heads of two entries of a kind that begin the same bytes are one, and the same bytes stand behind them
pub record OneHead (l m : Label) (d e : ℕ) (x w y z r q : List ℕ) : Type 0 where
  pub label : l ≡ m
  pub declared : d ≡ e
  pub row : x ≡ w
  pub behind : y ++ r ≡ z ++ q

pub heads_one : {kind : ℕ} {Kind : Label → Type 0} {l l' : Label} {d d' : ℕ} {x x' : List ℕ} → Kinded kind Kind → Kind l → packet.Head l x → d < 256 ^ 4
    → Kind l' → packet.Head l' x' → d' < 256 ^ 4 → (y z r y' z' q : List ℕ)
    → (x ++ (digits 4 d ++ (y ++ z))) ++ r ≡ (x' ++ (digits 4 d' ++ (y' ++ z'))) ++ q → OneHead l l' d d' x x' y y' (z ++ r) (z' ++ q)
heads_one {kind} {l = l} {l'} {d} {d'} {x} {x'} k a b c a' b' c' y z r y' z' q e =
    let s = (x ++ (digits 4 d ++ (y ++ z))) ++ r in
    let m : First kind s 0 l x d y z r = first k a b c (record { same = refl }) in
    let o : First kind s 0 l' x' d' y' z' q = first k a' b' c' (record { same = e }) in
    let ee : m.head.entry ≡ o.head.entry = same_held (sym m.head.read ∙ o.head.read) in
    let pp : m.head.entry.place ≡ o.head.entry.place = ap (λ (t : Entry). t.place) ee in
    record {
      label = names_one m.head.names o.head.names (ap record_of ee);
      declared = sym m.head.declared ∙ (ap (λ (t : Entry). t.length) ee ∙ o.head.declared);
      row = (front x x' _ _ (sym (append_assoc x _ r) ∙ (e ∙ append_assoc x' _ q)) (omega (arith, m.head.place, o.head.place))).0;
      behind = sym m.value.same ∙ (ap (λ p. drop p s) pp ∙ o.value.same);
    }

pub items_unique : {kind : ℕ} {Kind : Label → Type 0} {is js : List Item} {x y : List ℕ} → Kinded kind Kind → Items Kind is x → Items Kind js y → (r q : List ℕ)
    → length is ≡ length js → x ++ r ≡ y ++ q → (is ≡ js) × (x ≡ y)
items_unique k Items.none Items.none r q c e = (refl, refl)
items_unique k Items.none (Items.more a b d f i) r q c e = absurd (omega arith)
items_unique k (Items.more a b d f i) Items.none r q c e = absurd (omega arith)
items_unique k (Items.more {v = v} {y = y} {z = z} a b c f i) (Items.more {v = v'} {y = y'} {z = z'} a' b' c' f' i') r q n e =
    let o = heads_one k a b c a' b' c' y z r y' z' q e in
    let vv = amf0.unique v v' y y' (z ++ r) (z' ++ q) f f' o.behind in
    let zz = (front y y' (z ++ r) (z' ++ q) o.behind (ap length vv.1)).1 in
    let ii = items_unique k i i' r q (omega arith) zz in
    (rw (o.label, o.declared, vv.0, ii.0), rw (o.row, o.declared, vv.1, ii.1))
