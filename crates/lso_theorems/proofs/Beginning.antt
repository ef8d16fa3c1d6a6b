-- Proper beginnings of a file: one that ends in the header is refused with 2, and any other is accepted by the incomplete reading with the elements that
-- are whole in it.
use Rattle.std.specs.Prelude.{◌+◌, ◌*◌, ◌≤◌, ◌<◌, ◌≡◌, ◌≢◌, ◌∷◌, ◌++◌}
use Rattle.wire.proofs.Kit.{ℕ, refl, sym, ap, ◌∙◌, ⊎_elim, List, [], append_assoc, append-nil, arith, length}
use Rattle.wire.proofs.Kit.{take, drop, length-append, take-append-drop, take-append-le, drop-append-le, take-append_seam, drop-append_seam, length-drop, lit<}
use Rattle.wire.specs.Number.{digits, Bytes}
use Rattle.wire.specs.Limit as limit
use Rattle.wire.proofs.Stands.{bytes_left}
use Rattle.image.specs.Whole.{refused}
use Rattle.image.specs.Due.{Ends, Stops}
use Rattle.image.proofs.Settle.{either, ends_or_stops, one_end, ends_not}
use Rattle.amf0.specs.Standard.{Sort, Tree, depth, UTF-8, Encodes}
use Rattle.amf0.specs.Standard.UTF-8.{short}
use Rattle.amf0_theorems.specs.Refusal.{Field, InText, Refuses}
use Rattle.amf0_theorems.proofs.Bytes.{◌also◌, both, text, encoding}
use Rattle.amf0_theorems.proofs.Refused.{still_refused}
use Rattle.amf0_theorems.proofs.Refusals.{beginning_refused}
use Rattle.lso.specs.Reading.{header_at, incomplete_of, whole_of}
use Rattle.lso.specs.File.{Body, Lso, Elements, File, deepest, version, signature, padding}
use Rattle.lso.proofs.Outcome.{whole_refused}
use Rattle.lso_theorems.specs.Refusal.{LeadsElement, RefusedHeader, RefusedElement, Halts, Heads, PartOfElement, Parts, WholeIn}
use Rattle.lso_theorems.proofs.Complete.{element_more, header_reads}
use Rattle.lso_theorems.proofs.Files.{file_bytes_lem}
use Rattle.lso_theorems.proofs.Sound.{header_more, end_heads}
use Rattle.lso_theorems.proofs.Stopping.{heads_end, Accepts, refused_header}
use Rattle.lso_theorems.proofs.Refusals.{header_refused, header_either}
use Rattle.lso_theorems.proofs.Theorems.{complete_incomplete}

-- ---- the header

-- a header that is refused with another answer than 2 stays so, whatever follows
header_longer : {x : List ℕ} {a p : ℕ} (q : List ℕ) → RefusedHeader x a p → a ≢ 2 → RefusedHeader (x ++ q) a p
header_longer q = still_refused q (λ r x f h l. l)

-- a header stays one, whatever follows
heads_longer : {x : List ℕ} {p : ℕ} (q : List ℕ) → Heads x p → Heads (x ++ q) p
heads_longer {x} {p} q h =
    record {
      stored = h.stored;
      name = h.name;
      begins =
          record {
            file = rw (take-append-le p x q h.begins.within) h.begins.file;
            within = omega (arith, h.begins.within, length-append x q);
            deep = h.begins.deep;
          };
    }

module _ (x r : List ℕ) (p : ℕ) (bs : Bytes (x ++ r)) (h : Heads (x ++ r) p) (l : length x < p) where
  header_short : (q : ℕ) × Stops (header_at x) 2 q
  header_short =
      let part : Bytes x = bytes_left x r bs in
      let whole = heads_end h in
      ⊎_elim
      (λ e.
      let g = end_heads x part e.0 e.1 in
      let same = one_end (header_at (x ++ r)) (heads_end (heads_longer r g)) whole in
      absurd (omega (arith, g.begins.within)))
      (λ e.
      let a : ℕ = e.0 in
      let q : ℕ = e.1 in
      let f = (header_refused x a q part).0 e.2 in
      ⊎_elim (λ y. (q, rw y at e.2))
      (λ y.
      let g = header_longer r f (λ z. omega arith) in
      absurd (ends_not (header_at (x ++ r)) p a q whole ((header_refused (x ++ r) a q bs).1 g)))
      (header_either f))
      (ends_or_stops (header_at x))

-- A proper beginning of a header, that is, of the bytes before the first element, is refused with 2 by both readings, whatever the room.
pub beginning_header : (x r : List ℕ) (p room : ℕ) → Bytes (x ++ r) → Heads (x ++ r) p → length x < p → length x ≤ limit.bytes
    → (q : ℕ) × (incomplete_of x room ≡ refused 2 q) × (whole_of x room ≡ refused 2 q)
beginning_header x r p room bs h l i =
    let t = header_short x r p bs h l in
    let e = refused_header x room i 2 t.0 t.1 in
    (t.0, e, sym (whole_refused x room 2 t.0 (sym e)))

-- ---- rows that begin alike

-- the longer of two rows is the shorter one and more
record More (a b c d : List ℕ) : Type 0 where
  more : List ℕ
  first : c ≡ a ++ more
  second : b ≡ more ++ d
  size : length c ≡ length a + length more

split : (a b c d : List ℕ) → a ++ b ≡ c ++ d → length a ≤ length c → More a b c d
split a b c d e l =
    let n : ℕ = length a in
    let t : a ≡ take n c = sym (take-append_seam a b) ∙ (ap (take n) e ∙ take-append-le n c d l) in
    record {
      more = drop n c;
      first = sym (take-append-drop n c) ∙ ap (λ y. y ++ drop n c) (sym t);
      second = sym (drop-append_seam a b) ∙ (ap (drop n) e ∙ drop-append-le n c d l);
      size = omega (arith, length-drop n c);
    }

-- a front before a row that is cut
longer_front : {x m d : List ℕ} (a b c : List ℕ) → x ≡ a ++ m → m ≡ b ++ c → a ++ b ≡ d → x ≡ d ++ c
longer_front a b c e f g = e ∙ (ap (λ w. a ++ w) f ∙ (sym (append_assoc a b c) ∙ ap (λ w. w ++ c) g))

-- ---- a proper beginning of a file

-- the elements that are whole in a proper beginning x of elements b
record CutBody (b : Body) (x : List ℕ) : Type 0 where
  body : Body
  row : List ℕ
  part : List ℕ
  later : Body
  elements : Elements body row
  next : PartOfElement part
  parts : Parts body (Body.element next.key next.tree later) b
  same : x ≡ row ++ part
  deep : deepest body ≤ limit.levels

-- an element that is whole, and a cut behind it
cut_more : {k y row x m : List ℕ} {v : Tree Sort.value} {b : Body} → UTF-8 k y → Encodes Sort.value v row → depth v ≤ limit.levels
    → x ≡ (y ++ (row ++ (0 ∷ []))) ++ m → CutBody b m → CutBody (Body.element k v b) x
cut_more {k} {y} {row} {v} t c d e b =
    record {
      body = Body.element k v b.body;
      row = y ++ (row ++ (0 ∷ b.row));
      part = b.part;
      later = b.later;
      elements = Elements.element t c b.elements;
      next = b.next;
      parts = Parts.element b.parts;
      same = longer_front (y ++ (row ++ (0 ∷ []))) b.row b.part e b.same (element_more y row b.row);
      deep = omega (arith, b.deep);
    }

-- an element that is cut
cut_here : {k y row x : List ℕ} {v : Tree Sort.value} (b : Body) (m : List ℕ) → UTF-8 k y → Encodes Sort.value v row → depth v ≤ limit.levels
    → y ++ (row ++ (0 ∷ [])) ≡ x ++ m → 1 ≤ length m → CutBody (Body.element k v b) x
cut_here {k} {y} {row} {x} {v} b m t c d e l =
    record {
      body = Body.none;
      row = [];
      part = x;
      later = b;
      elements = Elements.none;
      next = record { key = k; text = y; tree = v; row = row; missing = m; utf_8 = t; encodes = c; deep = d; same = sym e; some = l };
      parts = Parts.none;
      same = refl;
      deep = omega arith;
    }

-- a proper beginning of elements is cut somewhere
cut_body : {b : Body} {z : List ℕ} → Elements b z → (x r : List ℕ) → z ≡ x ++ r → 1 ≤ length r → deepest b ≤ limit.levels → CutBody b x
cut_body Elements.none x r e l d = absurd (omega (arith, ap length e, length-append x r))
cut_body (Elements.element {x = y} {b} {y = row} {z} t c els) x r e l d =
    let one : List ℕ = y ++ (row ++ (0 ∷ [])) in
    let whole : one ++ z ≡ x ++ r = element_more y row z ∙ e in
    either (length one) (length x)
    (λ i.
    let m = split one z x r whole i in
    cut_more t c (omega arith) m.first (cut_body els m.more r m.second l (omega arith)))
    (λ i.
    let m = split x r one z (sym whole) (omega arith) in
    cut_here b m.more t c (omega arith) m.first (omega (arith, m.size)))

-- a proper beginning of a file is cut behind its header: what is whole in it is a file within the levels
cut_file : {f : Lso} {w : List ℕ} → File f w → (x r : List ℕ) (p : ℕ) → w ≡ x ++ r → 1 ≤ length r → deepest f.body ≤ limit.levels
    → Ends (header_at w) p → p ≤ length x → (g : Lso) × WholeIn f g x × (deepest g.body ≤ limit.levels)
cut_file (File.file {stored} {name} {z} l (short t c u) els) x r p e i d h j =
    let v : List ℕ = digits 2 (length t) ++ t in
    let head : List ℕ = version ++ (digits 4 stored ++ (signature ++ (v ++ padding))) in
    let w : List ℕ = version ++ (digits 4 stored ++ (signature ++ (v ++ (padding ++ z)))) in
    let size : p ≡ 18 + length t + 4 = rw (header_reads stored t z w [] l c u (record { same = sym (append-nil w) })) at h in
    let m = split head z x r (header_more (digits 4 stored) v z ∙ e) (omega (arith, length-append t padding)) in
    let b = cut_body els m.more r m.second i d in (
      record { stored = stored; name = t; body = b.body },
      record {
        stored = refl;
        name = refl;
        row = version ++ (digits 4 stored ++ (signature ++ (v ++ (padding ++ b.row))));
        part = b.part;
        later = b.later;
        file = File.file l (short t c u) b.elements;
        next = b.next;
        elements = b.parts;
        same = longer_front head b.row b.part m.first b.same (header_more (digits 4 stored) v b.row);
      },
      b.deep,
    )

-- ---- a proper beginning of an element

-- a field at the end of an input that refuses an element there
refused_at : {w y r : List ℕ} {f : Field} (x : List ℕ) → LeadsElement r y f → w ≡ y ++ r → Refuses f r 2 → (p : ℕ) × RefusedElement (x ++ w) (length x) 2 p
refused_at {w} {y} {r} {f} x l e s =
    (length x + length y, record { before = y; rest = r; field = f; stands = drop-append_seam x w ∙ e; here = refl; leads = l; refuses = s })

-- a proper beginning of an element is refused with 2
part_refused : (x w : List ℕ) → PartOfElement w → (p : ℕ) × RefusedElement (x ++ w) (length x) 2 p
part_refused x w e = go e.utf_8 e.same
  where
    go : {k y : List ℕ} → UTF-8 k y → w ++ e.missing ≡ y ++ (e.row ++ (0 ∷ [])) → (p : ℕ) × RefusedElement (x ++ w) (length x) 2 p
    go (short k b u) same =
        let d : List ℕ = digits 2 (length k) in
        let z : List ℕ = e.row ++ (0 ∷ []) in
        either 2 (length w)
        (λ i. either (length (d ++ k)) (length w)
        (λ j.
        let m = split (d ++ k) z w e.missing (sym same) j in
        either (length e.row) (length m.more)
        (λ g.
        let n = split e.row (0 ∷ []) m.more e.missing m.second g in
        refused_at x (LeadsElement.zero (short k b u) e.encodes e.deep)
        (m.first ∙ (ap (λ v. (d ++ k) ++ v) n.first ∙ sym (append_assoc (d ++ k) e.row n.more)))
        (Refuses.short (omega (arith, ap length n.second, length-append n.more e.missing, e.some))))
        (λ g.
        let n = split m.more e.missing e.row (0 ∷ []) (sym m.second) (omega arith) in
        let c = (beginning_refused limit.levels e.tree m.more n.more (rw n.first at e.encodes) (omega (arith, n.size)) e.deep).1 in
        refused_at x (LeadsElement.value (short k b u) c.leads)
        (m.first ∙ (ap (λ v. (d ++ k) ++ v) c.stands ∙ sym (append_assoc (d ++ k) c.before c.rest))) c.refuses))
        (λ j.
        let m = split d (k ++ z) w e.missing (sym same) i in
        refused_at x (LeadsElement.key (InText.letters b)) m.first (Refuses.short (omega (arith, m.size)))))
        (λ i. refused_at x (LeadsElement.key InText.size) refl (Refuses.short i))

-- a part of an element is a row of bytes
part_bytes : {w : List ℕ} (e : PartOfElement w) → Bytes w
part_bytes {w} e = go e.utf_8 e.same
  where
    go : {k y : List ℕ} → UTF-8 k y → w ++ e.missing ≡ y ++ (e.row ++ (0 ∷ [])) → Bytes w
    go (short k h u) same =
        bytes_left w e.missing
        (rw same (both (digits 2 (length k) ++ k) (e.row ++ (0 ∷ [])) (text 2 k u) (both e.row (0 ∷ []) (encoding e.encodes) (lit< tt also tt))))

-- Behind a file stands a proper beginning of an element: the incomplete reading accepts the file, where the room is three times the input.
pub beginning_element : (f : Lso) (x w : List ℕ) (room : ℕ) → File f x → deepest f.body ≤ limit.levels → PartOfElement w
    → length (x ++ w) ≤ limit.bytes → 3 * length (x ++ w) ≤ room → Accepts (x ++ w) f (length x) (incomplete_of (x ++ w) room)
beginning_element f x w room c d e h i =
    let bs : Bytes (x ++ w) = both x w (file_bytes_lem c) (part_bytes e) in
    complete_incomplete f x w room bs c d h i (Halts.short (part_refused x w e).1)

-- A proper beginning of a file that has its header whole is accepted by the incomplete reading, where the room is three times the input, with the elements
-- that are whole in it.
pub beginning_file : (f : Lso) (x r : List ℕ) (p room : ℕ) → File f (x ++ r) → 1 ≤ length r → deepest f.body ≤ limit.levels
    → Heads (x ++ r) p → p ≤ length x → length x ≤ limit.bytes → 3 * length x ≤ room
    → (g : Lso) × (w : WholeIn f g x) × Accepts x g (length w.row) (incomplete_of x room)
beginning_file f x r p room c l d h j i k =
    let g = cut_file c x r p refl l d (heads_end h) j in
    (g.0, g.1, go g.0 g.1 g.2)
  where
    go : (g : Lso) (w : WholeIn f g x) → deepest g.body ≤ limit.levels → Accepts x g (length w.row) (incomplete_of x room)
    go g w d =
        let s : w.row ++ w.part ≡ x = sym w.same in
        let n = ap length s in
        rw s at (beginning_element g w.row w.part room w.file d w.next (omega arith) (omega arith))
