-- How the code makes an index.
use Rattle.std.specs.Prelude.{◌+◌, ◌-◌, ◌*◌, ◌/◌, ◌≤◌, ◌<◌, ◌≡◌, ◌∷◌, ◌++◌, Some, None}
use Rattle.wire.proofs.Kit.{ℕ, zero, suc, refl, sym, ap, ◌∙◌, List, [], zero-add, arith, length, get_or, take, drop}
use Rattle.wire.proofs.Kit.{replicate, drop-cons, drop-drop, drop-append-le, take-append-le, take-append-drop, take_at, length-take-le, length-drop, le-leb, lt-leb}
use lib.Seq.{take-add}
use Rattle.wire.specs.Number.{digits, number, Bytes}
use Rattle.wire.specs.Field.{bytes_at}
use Rattle.wire.specs.Limit as limit
use Rattle.wire.specs.declared.cursor.Cursor.{Cursor}
use Rattle.wire.proofs.Laws.{picked, same_answer, digits_number, number_one}
use Rattle.wire.proofs.Stands.{stood, bytes_here, length_bytes}
use Rattle.image.specs.Taking.{Taken, record_at}
use Rattle.image.specs.Due.{went_to}
use Rattle.wire.specs.Answer.{denied}
use Rattle.image.specs.Out.{Out, end, stop, put, named_at, Poured, poured, pour, bytes as bytes_out}
use Rattle.image.specs.Whole.{padded}
use Rattle.image.proofs.Pouring.{went}
use Rattle.amf0.proofs.Putting.{past, known_bytes}
use Rattle.index.specs.declared.walk.Rest.{Rest}
use Rattle.index.specs.declared.walk.Role.{Role}
use Rattle.index.specs.declared.mark.Mark.{Mark}
use Rattle.index.specs.Mark.{mark_at, mark_bytes, flat, rows_at, rows}
use Rattle.index.specs.Order.{before}
use Rattle.index.specs.Sort.{Shuffled, Sorted}
use Rattle.index.specs.Keys.{role_of, Begun, begun_to}
use Rattle.index.specs.Index.{root_by, root_in, root_of, keys_of, Indexed, unindexed, keyed, unless, index_of, Holds}
use Rattle.index.proofs.Rows.{clash}

-- ---- where the root begins

module _ (image text : List ℕ) (h : (i : ℕ) → get_or image i 0 < 256) where
  abbrev Inside : Begun → Type 0
  Inside (Some x) = x.0.at ≤ length image
  Inside None = Unit {0}

  root_inside : Inside (root_of image text)
  unfolding root_of
  root_inside = go (record_at image 0) refl
    where
      by : (x : Role) (d : Cursor) → d.at ≤ length image → Inside (root_by text x d)
      by (Role.Value p n g) d s = omega arith
      by (Role.Key p n) d s = omega arith
      by (Role.File p n) d s = picked Inside (named_at text p n) _ _ (λ _. s) (λ _. tt)
      by Role.End d s = omega arith
      by Role.Other d s = omega arith

      go : (t : Taken) → record_at image 0 ≡ t → Inside (root_in text t)
      go (Some x) g = by (role_of x.0) x.1 (past image h 0 {r = x.0} {c = x.1} g).fits
      go None g = omega arith

  pub root_fits : (c : Cursor) (f : Rest) → root_of image text ≡ begun_to c f → c.at ≤ length image
  root_fits c f e = rw e at root_inside

-- ---- marks in bytes

bytes_front : (w q : ℕ) (b r : List ℕ) → q + w ≤ length b → bytes_at w (b ++ r) q ≡ bytes_at w b q
bytes_front w q b r h = rw (drop-append-le q b r (omega arith)) (take-append-le w (drop q b) r (omega (arith, length-drop q b)))

rows_at_front : (n at : ℕ) (b r : List ℕ) → at + 13 * n ≤ length b → rows_at n at (b ++ r) ≡ rows_at n at b
unfolding rows_at mark_at
rows_at_front zero at b r h = refl
rows_at_front (suc n) at b r h =
    rw (bytes_front 1 at b r (omega arith), bytes_front 4 (at + 1) b r (omega arith), bytes_front 4 (at + 5) b r (omega arith), bytes_front 4 (at + 9) b r (omega arith), rows_at_front n (at + 13) b r (omega arith))

digits_there : (s : List ℕ) → Bytes s → (at : ℕ) → at + 4 ≤ length s → digits 4 (number (bytes_at 4 s at)) ≡ bytes_at 4 s at
digits_there s b at h = rw (length_bytes 4 s at h) at (digits_number (bytes_at 4 s at) (bytes_here (stood 4 s at) b))

-- so many bytes, and then more
parts : (v w : ℕ) (s : List ℕ) (at : ℕ) → bytes_at (v + w) s at ≡ bytes_at v s at ++ bytes_at w s (at + v)
parts v w s at = take-add v w (drop at s) ∙ ap (λ (l : List ℕ). bytes_at v s at ++ take w l) (drop-drop v at s)

one : (s : List ℕ) (at : ℕ) → at < length s → bytes_at 1 s at ≡ number (bytes_at 1 s at) ∷ []
one s at h = rw (number_one s at h) (rw (drop-cons s at 0 h))

glue : (d : ℕ) (c c' k k' v v' : List ℕ) → c ≡ c' → k ≡ k' → v ≡ v' → d ∷ c ++ (k ++ v) ≡ d ∷ c' ++ (k' ++ v')
glue d c c' k k' v v' p q r = rw (p, q, r)

mark_there : (s : List ℕ) → Bytes s → (at : ℕ) → at + 13 ≤ length s → bytes_at 13 s at ≡ mark_bytes (mark_at s at)
unfolding mark_at
mark_there s b at h =
    let p5 : at + 1 + 4 ≡ at + 5 = omega arith in
    let p9 : at + 1 + 4 + 4 ≡ at + 9 = omega arith in
    parts 1 12 s at
    ∙ ap (λ (l : List ℕ). bytes_at 1 s at ++ l) (parts 4 8 s (at + 1) ∙ ap (λ (l : List ℕ). bytes_at 4 s (at + 1) ++ l) (parts 4 4 s (at + 1 + 4)))
    ∙ ap (λ (l : List ℕ). l ++ (bytes_at 4 s (at + 1) ++ (bytes_at 4 s (at + 1 + 4) ++ bytes_at 4 s (at + 1 + 4 + 4)))) (one s at (omega arith))
    ∙ glue (number (bytes_at 1 s at))
    (bytes_at 4 s (at + 1)) (digits 4 (number (bytes_at 4 s (at + 1))))
    (bytes_at 4 s (at + 1 + 4)) (digits 4 (number (bytes_at 4 s (at + 5))))
    (bytes_at 4 s (at + 1 + 4 + 4)) (digits 4 (number (bytes_at 4 s (at + 9))))
    (sym (digits_there s b (at + 1) (omega arith)))
    (ap (λ (k : ℕ). bytes_at 4 s k) p5 ∙ sym (digits_there s b (at + 5) (omega arith)))
    (ap (λ (k : ℕ). bytes_at 4 s k) p9 ∙ sym (digits_there s b (at + 9) (omega arith)))

flat_rows : (n at : ℕ) (s : List ℕ) → Bytes s → at + 13 * n ≤ length s → bytes_at (13 * n) s at ≡ flat (rows_at n at s)
unfolding rows_at
flat_rows zero at s b h = refl
flat_rows (suc n) at s b h =
    let e : 13 * suc n ≡ 13 + 13 * n = omega arith in
    ap (λ (k : ℕ). bytes_at k s at) e ∙ parts 13 (13 * n) s at
    ∙ ap (λ (l : List ℕ). l ++ bytes_at (13 * n) s (at + 13)) (mark_there s b at (omega arith))
    ∙ ap (λ (l : List ℕ). mark_bytes (mark_at s at) ++ l) (flat_rows n (at + 13) s b (omega arith))

-- ---- the answer

unless_went : (d : Out) (x : Indexed) (count : ℕ) (out : List ℕ) {c : Cursor} {n : ℕ} {o : List ℕ} → poured (went_to c n) o ≡ pour d count out → unless d x ≡ x
unfolding pour unless
unless_went (end m) x count out e = refl
unless_went (stop a p) x count out e = let s = ap (λ (y : Poured). y.step) e in absurd (clash (cc))
unless_went (put b d) x count out e = unless_went d x (count + length b) _ e

unless_halt : (d : Out) (x : Indexed) (count : ℕ) (out : List ℕ) {a p : ℕ} {o : List ℕ} → poured (denied a p) o ≡ pour d count out → unless d x ≡ unindexed a
unfolding pour unless
unless_halt (end m) x count out e = let s = ap (λ (y : Poured). y.step) e in absurd (clash (cc))
unless_halt (stop w q) x count out {a} e = rw (sym (same_answer (ap (λ (y : Poured). y.step) e)))
unless_halt (put b d) x count out e = unless_halt d x (count + length b) _ e

module _ (image text : List ℕ) (room : ℕ) where
  pub text_over : limit.bytes < length text → index_of image text room ≡ unindexed 1
  text_over h = rw (lt-leb (length text) limit.bytes h)

  module _ (t : length text ≤ limit.bytes) where
    pub image_over : limit.image < length image → index_of image text room ≡ unindexed 1
    image_over h = rw (le-leb (length text) limit.bytes t, lt-leb (length image) limit.image h)

    module _ (i : length image ≤ limit.image) where
      pub stopped : (out : List ℕ) {a p : ℕ} {o : List ℕ} → poured (denied a p) o ≡ pour (keys_of image text) 0 out → index_of image text room ≡ unindexed a
      stopped out e = rw (le-leb (length text) limit.bytes t, le-leb (length image) limit.image i) (unless_halt (keys_of image text) _ 0 out e)

      module _ (out : List ℕ) {c : Cursor} {n : ℕ} {o : List ℕ} (e : poured (went_to c n) o ≡ pour (keys_of image text) 0 out) where
        pub counted : n ≡ length (bytes_out (keys_of image text))
        counted = (went (keys_of image text) 0 out e).size ∙ zero-add (length (bytes_out (keys_of image text)))

        pub full : room < n → index_of image text room ≡ unindexed 4
        full h =
            rw (le-leb (length text) limit.bytes t, le-leb (length image) limit.image i)
            (unless_went (keys_of image text) _ 0 out e ∙ rw (lt-leb (length (bytes_out (keys_of image text))) room (omega (arith, counted))))

        pub fitted : n ≤ room → index_of image text room ≡ keyed (bytes_out (keys_of image text))
        fitted h =
            rw (le-leb (length text) limit.bytes t, le-leb (length image) limit.image i)
            (unless_went (keys_of image text) _ 0 out e ∙ rw (le-leb (length (bytes_out (keys_of image text))) room (omega (arith, counted))))

-- ---- what the index holds

pub held : (image text index : List ℕ) {x y : Indexed} → x ≡ y → Holds image text y.keys index → Holds image text x.keys index
held image text index e h = rw e h

-- after a refusal: nothing
pub emptied : (image text index : List ℕ) (room : ℕ) → length index ≡ room → index ≡ padded [] room → Holds image text [] index
emptied image text index room n e =
    record { row = []; sorted = record { same = Shuffled.none; rising = λ k h. absurd (omega arith) }; bytes = e ∙ ap (λ (k : ℕ). padded [] k) (sym n) }

pub nothing_held : (image text index : List ℕ) (room size : ℕ) {a : ℕ} → index_of image text room ≡ unindexed a → length index ≡ size → index ≡ padded [] size
    → Holds image text (index_of image text room).keys index
nothing_held image text index room size e n b = held image text index e (emptied image text index size n b)

-- what is sorted and then cleared behind
pub made : (image text b r o s index : List ℕ) (k : ℕ) → k ≡ length b / 13 → o ≡ b ++ r → ((i : ℕ) → get_or index i 0 < 256) → 13 * k ≤ length s
    → Sorted (before image text) (rows k o) (rows k s) → length index ≡ length s → index ≡ take (13 * k) s ++ replicate (length s - 13 * k) 0
    → Holds image text (rows (length b / 13) b) index
made image text b r o s index k e f h g q l i =
    let m : rows k o ≡ rows (length b / 13) b = ap (λ (x : List ℕ). rows k x) f ∙ rows_at_front k 0 b r (omega arith) ∙ ap (λ (n : ℕ). rows n b) e in
    let a : length (take (13 * k) s) ≡ 13 * k = length-take-le (13 * k) s g in
    let u : rows k s ≡ rows k (take (13 * k) s) =
    ap (λ (x : List ℕ). rows k x) (sym (take-append-drop (13 * k) s)) ∙ rows_at_front k 0 (take (13 * k) s) (drop (13 * k) s) (omega (arith, a)) in
    let v : rows k index ≡ rows k (take (13 * k) s) =
    ap (λ (x : List ℕ). rows k x) i ∙ rows_at_front k 0 (take (13 * k) s) (replicate (length s - 13 * k) 0) (omega (arith, a)) in
    let y : take (13 * k) index ≡ take (13 * k) s = ap (λ (x : List ℕ). take (13 * k) x) i ∙ take_at (take (13 * k) s) (replicate (length s - 13 * k) 0) (13 * k) a in
    let z : take (13 * k) s ≡ flat (rows k s) =
    sym y ∙ flat_rows k 0 index (known_bytes index h) (omega (arith, l)) ∙ ap (λ (x : List Mark). flat x) (v ∙ sym u) in
    let n : length (flat (rows k s)) ≡ 13 * k = ap length (sym z) ∙ a in
    record { row = rows k s; sorted = rw m at q; bytes = i ∙ rw (z, l, n) }
