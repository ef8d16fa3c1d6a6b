-- What the standard calls a value is read as that value.
use Rattle.std.specs.Prelude.{◌+◌, ◌-◌, ◌^◌, ◌≤◌, ◌<◌, ◌≡◌, ◌∷◌, ◌++◌, Ok, Err}
use Rattle.wire.proofs.Kit.{ℕ, zero, suc, refl, sym, ap, ap₂, ◌∙◌, List, [], true, arith, length, length-append, length-drop}
use Rattle.wire.proofs.Kit.{eqb, lit<}
use Prim.Native.Nat.{pred}
use Rattle.wire.specs.Choice.{pick}
use Rattle.wire.specs.Number.{digits}
use Rattle.wire.specs.Utf8.{utf8, ends}
use Rattle.wire.specs.Field.{bytes_at, u8_at, got, Parsed}
use Rattle.wire.proofs.Stands.{Here, cut, skip, inside, there, byte_at, text_at_lem}
use Rattle.image.specs.declared.record.Record.{Record}
use Rattle.image.specs.declared.record.Record.TheVariants.{Key, ObjectEnd}
use Rattle.image.specs.Due.{Due, end, stop, seen, due, ◌>>=◌}
use Rattle.image.specs.Due.Fact.{own, dropped}
use Rattle.amf0.specs.declared.read.Follow.{Follow}
use Rattle.amf0.specs.Marker.{marker_of}
use Rattle.amf0.specs.Fields.{gives, got_fields, behind}
use Rattle.amf0.specs.Reading.{items, pair, pairs, follow, own_at, value}
use Rattle.amf0.specs.Standard.{Sort, many, Content, content, sort_of, Tree, depth, Encodes}
use Rattle.amf0.specs.Standard.UTF-8.{short}
use Rattle.amf0.proofs.Rows.{item_at, mark, next_of, Begins, row_begins, item_at_lem}
use Rattle.wire.specs.Answer.{denied}

-- a row of bytes that stands at a place, with so many levels left, before another reading: what is seen of it, and its records, each with the place that a
-- refusal for room would name
unfoldable pub marks : {k : Sort} {t : Tree k} {x : List ℕ} → Encodes k t x → (left at : ℕ) → Due → Due
marks (Encodes.node {x} row e) left at d = seen (own (pred left) x) (due (mark row at) at (marks e (pred left) (at + length x) d))
marks Encodes.end left at d = seen (dropped 0) (due ObjectEnd (at + 2 + 0) d)
marks (Encodes.departure_named_end (short k h u) l) left at d = seen (dropped (length k)) (due ObjectEnd (at + 2 + length k) d)
marks (Encodes.property {y} (short k h u) e f) left at d =
    due (Key (at + 2) (length k)) at (marks e left (at + 2 + length k) (marks f left (at + 2 + length k + length y) d))
marks Encodes.nil left at d = d
marks (Encodes.cons {x} e f) left at d = marks e left at (marks f left (at + length x) d)

marks_bind : {k : Sort} {t : Tree k} {x : List ℕ} (e : Encodes k t x) (left at : ℕ) (d : Due) (more : ℕ → Due)
    → marks e left at d >>= more ≡ marks e left at (d >>= more)
unfolding marks
marks_bind (Encodes.node {x} row e) left at d more =
    ap (λ c. seen (own (pred left) x) (due (mark row at) at c)) (marks_bind e (pred left) (at + length x) d more)
marks_bind Encodes.end left at d more = refl
marks_bind (Encodes.departure_named_end (short k h u) l) left at d more = refl
marks_bind (Encodes.property {y} (short k h u) e f) left at d more =
    let q : ℕ = at + 2 + length k in
    ap (due (Key (at + 2) (length k)) at)
    (marks_bind e left q (marks f left (q + length y) d) more ∙ ap (marks e left q) (marks_bind f left (q + length y) d more))
marks_bind Encodes.nil left at d more = refl
marks_bind (Encodes.cons {x} e f) left at d more =
    marks_bind e left at (marks f left (at + length x) d) more ∙ ap (marks e left at) (marks_bind f left (at + length x) d more)

-- one reading and then another
then : {k : Sort} {t : Tree k} {x : List ℕ} (e : Encodes k t x) (left at : ℕ) {c d : Due} {q : ℕ} (more : ℕ → Due)
    → c ≡ marks e left at (end q) → more q ≡ d → c >>= more ≡ marks e left at d
then e left at {q} more a b = ap (λ c. c >>= more) a ∙ (marks_bind e left at (end q) more ∙ ap (marks e left at) b)

-- what is read of each sort
abbrev pub part : (ℕ → Due) → List ℕ → ℕ → Sort → ℕ → Due
part value s fuel Sort.value at = value at
part value s fuel Sort.properties at = pairs value s fuel at
part value s fuel (Sort.values n) at = items value n at

pub follow_next : (v : ℕ → Due) (s : List ℕ) (c : Content) (q : ℕ) → follow v s (next_of c) q ≡ part v s (length s) (sort_of c) q
unfolding follow items
follow_next v s Content.nothing q = refl
follow_next v s Content.named q = refl
follow_next v s Content.associative q = refl
follow_next v s (Content.ordered n) q = refl

pub value_item : (left : ℕ) (s : List ℕ) (at : ℕ)
    → value (suc left) s at ≡ got_fields stop (item_at s at) λ r f q. seen (own_at left s at q) (due r at (follow (value left s) s f q))
unfolding value item_at
value_item left s at = go (u8_at s at)
  where
    go : (u : Parsed ℕ)
        → got stop u (λ m p. got_fields stop (behind s at p (marker_of m)) λ r f q. seen (own_at left s at q) (due r at (follow (value left s) s f q)))
        ≡ got_fields stop (got denied u λ m p. behind s at p (marker_of m)) λ r f q. seen (own_at left s at q) (due r at (follow (value left s) s f q))
    go (Ok x) = refl
    go (Err r) = refl

pub value_at_lem : (s : List ℕ) (at left : ℕ) {r : Record} {f : Follow} {q : ℕ} → item_at s at ≡ gives r f q → 1 ≤ left
    → value left s at ≡ seen (own_at (pred left) s at q) (due r at (follow (value (pred left) s) s f q))
value_at_lem s at zero e l = absurd (omega arith)
value_at_lem s at (suc left) e l = value_item left s at ∙ rw e

pub pairs_at : {s a b : List ℕ} {at m : ℕ} (inner : ℕ → Due) (fuel : ℕ) (k : List ℕ) → 1 ≤ fuel → length k < 256 ^ 2 → utf8 k ≡ true
    → Here s at (digits 2 (length k) ++ k) a → Here s (at + 2 + length k) (m ∷ []) b
    → pairs inner s fuel at
    ≡ pick (eqb m 9) (seen (dropped (length k)) (due ObjectEnd (at + 2 + length k) (end (at + 2 + length k + 1))))
    (due (Key (at + 2) (length k)) at (inner (at + 2 + length k) >>= pairs inner s (pred fuel)))
unfolding pairs pair
pairs_at inner zero k f l u x y = absurd (omega arith)
pairs_at {m} inner (suc fuel) k f l u x y = rw (text_at_lem 2 k x l u (omega arith), byte_at m y)

-- what stands behind a key
pub past : {s r : List ℕ} {at : ℕ} (k y : List ℕ) → Here s at ((digits 2 (length k) ++ k) ++ y) r → Here s (at + 2 + length k) y r
past k y h = skip k y (skip (digits 2 (length k)) (k ++ y) h)

closes : (inner : ℕ → Due) (k s r : List ℕ) (at n fuel : ℕ) → length k < 256 ^ 2 → utf8 k ≡ true → Here s at ((digits 2 (length k) ++ k) ++ (9 ∷ [])) r
    → n ≡ at + 2 + length k + 1 → 1 ≤ fuel → pairs inner s fuel at ≡ seen (dropped (length k)) (due ObjectEnd (at + 2 + length k) (end n))
closes inner k s r at n fuel h u g l f =
    pairs_at inner fuel k f h u (cut (digits 2 (length k) ++ k) (9 ∷ []) g) (past k (9 ∷ []) g)
    ∙ ap (λ q. seen (dropped (length k)) (due ObjectEnd (at + 2 + length k) (end q))) (sym l)

pub begun : {v : Tree Sort.value} {x : List ℕ} → Encodes Sort.value v x → Begins x
begun (Encodes.node {x} {y} row e) =
    let b = row_begins row in
    record { first = b.first; rest = b.rest ++ y; same = ap (λ z. z ++ y) b.same; other = b.other }

-- values that follow one another have a byte each
pub held : {k : Sort} {t : Tree k} {x : List ℕ} → Encodes k t x → many k ≤ length x
held (Encodes.node row e) = omega arith
held Encodes.end = omega arith
held (Encodes.departure_named_end u l) = omega arith
held (Encodes.property u e f) = omega arith
held Encodes.nil = omega arith
held (Encodes.cons {x} {y} e f) = omega (arith, held f, ap length (begun e).same, length-append x y)

pub within : {s x r : List ℕ} {at : ℕ} → Here s at x r → length x ≤ length s
within {s} {x} {r} {at} h = omega (arith, length-drop at s, ap length h.same, length-append x r)

pub complete : {k : Sort} {t : Tree k} {x : List ℕ} (e : Encodes k t x) (s r : List ℕ) (at n left fuel : ℕ)
    → Here s at x r → n ≡ at + length x → depth t ≤ left → length x ≤ fuel → part (value left s) s fuel k at ≡ marks e left at (end n)
unfolding items marks ends
complete (Encodes.node {i} {x} {y} row e) s r at n left fuel h l d f =
    let q : ℕ = at + length x in
    let z = skip x y h in
    let b = row_begins row in
    let lx = length-append x y in
    let long : q - at ≡ length x = omega arith in
    let own_row : bytes_at (q - at) s at ≡ x = ap (λ w. bytes_at w s at) long ∙ there (length x) (cut x y h) refl in
    value_at_lem s at left (item_at_lem s (y ++ r) at q row (cut x y h) refl (omega (arith, held e, inside h (omega (arith, ap length b.same))))) (omega arith)
    ∙ ap₂ (λ w d. seen (own (pred left) w) (due (mark row at) at d)) own_row
    (follow_next (value (pred left) s) s (content i) q ∙ complete e s r q n (pred left) (length s) z (omega arith) (omega arith) (within z))
complete Encodes.end s r at n left fuel h l d f = closes (value left s) [] s r at n fuel (lit< tt) refl h (omega arith) (omega arith)
complete (Encodes.departure_named_end (short k h u) o) s r at n left fuel g l d f =
    closes (value left s) k s r at n fuel h u g (omega (arith, length-append k (9 ∷ []))) (omega arith)
complete (Encodes.property {y} {z} (short k h u) e g) s r at n left fuel a l d f =
    let x : List ℕ = digits 2 (length k) ++ k in
    let q : ℕ = at + 2 + length k in
    let c : Here s q (y ++ z) r = past k (y ++ z) a in
    let m = begun e in
    let more : ℕ → Due = pairs (value left s) s (pred fuel) in
    let lk = length-append k (y ++ z) in
    let lx = length-append y z in
    pairs_at {m = m.first} (value left s) fuel k (omega arith) h u (cut x (y ++ z) a)
    (record { same = (cut y z c).same ∙ ap (λ w. w ++ (z ++ r)) m.same })
    ∙ (rw m.other
    (ap (due (Key (at + 2) (length k)) at)
    (then e left q more
    (complete e s (z ++ r) q (q + length y) left (length y) (cut y z c) refl (omega arith) (omega arith))
    (complete g s r (q + length y) n left (pred fuel) (skip y z c) (omega arith) (omega arith) (omega arith)))))
complete Encodes.nil s r at n left fuel h l d f = ap end (omega arith)
complete (Encodes.cons {n = c} {x} {y} e g) s r at n left fuel h l d f =
    let lx = length-append x y in
    then e left at (items (value left s) c)
    (complete e s (y ++ r) at (at + length x) left (length x) (cut x y h) refl (omega arith) (omega arith))
    (complete g s r (at + length x) n left (length y) (skip x y h) (omega arith) (omega arith) (omega arith))
