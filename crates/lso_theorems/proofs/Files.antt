-- The rows of bytes that are a file: each is of bytes, none is two files, and what a file is written as is that file, but for the length that it says, and
-- none is shorter.
use Rattle.std.specs.Prelude.{◌∷◌, ◌++◌, ◌≡◌, ◌+◌, ◌≤◌, ◌-◌}
use Rattle.wire.specs.declared.cursor.Span.{Span}
use Rattle.wire.proofs.Same.{ok_first}
use Rattle.wire.proofs.Kit.{ℕ, List, length, lit<, refl, sym, ap, ◌∙◌, arith, take, drop, length-append, take-append_seam, drop-append_seam}
use Rattle.wire.proofs.Kit.{take_at, drop_at, le_refl}
use Rattle.wire.specs.Number.{digits, Bytes, number}
use Rattle.amf0.specs.Standard.UTF-8.{short}
use Rattle.amf0_theorems.proofs.Bytes.{◌also◌, both, number as numbers, text, encoding}
use Rattle.lso.specs.File.{Body, Lso, Elements, File, version, signature, padding}
use Rattle.wire.proofs.Laws.{number_digits}
use Rattle.wire.proofs.Stands.{text_at_lem}
use Rattle.wire.proofs.Same.{ok_first}
use Rattle.wire.specs.declared.cursor.Span.{Span}
use Rattle.amf0.specs.Standard.{UTF-8}
use Rattle.amf0_theorems.proofs.Theorems as values
use Rattle.wire.specs.Limit as limit
use Rattle.image.specs.declared.record.Record.{Record}
use Rattle.image.specs.declared.record.Record.TheVariants as R
use Rattle.amf0.specs.Shown.{laid, Right}
use Rattle.amf0.specs.Written as amf0
use Rattle.amf0_theorems.proofs.Puts.{laid_length, laid_size, right_left, right_right}
use Rattle.amf0_theorems.proofs.Says.{short_text}
use Rattle.amf0_theorems.proofs.Shortest.{encoded, least}
use Rattle.lso.specs.Writing.{length_of}
use Rattle.lso.specs.Written.{write_body, write, saying, Spells, Images}

-- ---- every file is a row of bytes

-- elements in a row
elements_bytes : {b : Body} {z : List ℕ} → Elements b z → Bytes z
elements_bytes Elements.none = tt
elements_bytes (Elements.element {y} {z} (short t h u) e i) =
    both (digits 2 (length t) ++ t) (y ++ (0 ∷ z)) (text 2 t u) (both y (0 ∷ z) (encoding e) (lit< tt also elements_bytes i))

-- a file
pub file_bytes_lem : {f : Lso} {x : List ℕ} → File f x → Bytes x
file_bytes_lem (File.file {stored} {z} l (short t h u) els) =
    let n : List ℕ = digits 2 (length t) ++ t in
    both version (digits 4 stored ++ (signature ++ (n ++ (padding ++ z)))) (lit< tt also lit< tt also tt)
    (both (digits 4 stored) (signature ++ (n ++ (padding ++ z))) (numbers 4 stored)
    (both signature (n ++ (padding ++ z))
    (lit< tt also lit< tt also lit< tt also lit< tt also lit< tt also lit< tt also lit< tt also lit< tt also lit< tt also lit< tt also tt)
    (both n (padding ++ z) (text 2 t u) (both padding z (lit< tt also lit< tt also lit< tt also lit< tt also tt) (elements_bytes els)))))

-- ---- no row of bytes is two files

-- parts of one length
split : (x y r q : List ℕ) → length x ≡ length y → x ++ r ≡ y ++ q → (x ≡ y) × (r ≡ q)
split x y r q n e = (
  sym (take-append_seam x r) ∙ (ap (take (length x)) e ∙ take_at y q (length x) (sym n)),
  sym (drop-append_seam x r) ∙ (ap (drop (length x)) e ∙ drop_at y q (length x) (sym n)),
)

same_text : {k l x y : List ℕ} (r q : List ℕ) → UTF-8 k x → UTF-8 l y → x ++ r ≡ y ++ q → (k ≡ l) × (r ≡ q)
same_text r q (short k h u) (short l g v) e =
    let s : List ℕ = (digits 2 (length k) ++ k) ++ r in
    let a = text_at_lem {s = s} {r = r} {at = 0} 2 k (record { same = refl }) h u (omega arith) in
    let b = text_at_lem {s = s} {r = q} {at = 0} 2 l (record { same = e }) g v (omega arith) in
    let n : length k ≡ length l = ap (λ (t : Span). t.length) (ok_first (sym a ∙ b)) in
    split k l r q n (ap (drop 2) e)

same_elements : {a b : Body} {x y : List ℕ} → Elements a x → Elements b y → x ≡ y → a ≡ b
same_elements Elements.none Elements.none e = refl
same_elements Elements.none (Elements.element {x} {y} {z} t c els) e =
    absurd (omega (arith, ap length e, length-append x (y ++ (0 ∷ z)), length-append y (0 ∷ z)))
same_elements (Elements.element {x} {y} {z} t c els) Elements.none e =
    absurd (omega (arith, ap length e, length-append x (y ++ (0 ∷ z)), length-append y (0 ∷ z)))
same_elements (Elements.element {v} {y} {z} t c els) (Elements.element {v = w} {y = y₂} {z = z₂} t₂ c₂ els₂) e =
    let k = same_text (y ++ (0 ∷ z)) (y₂ ++ (0 ∷ z₂)) t t₂ e in
    let u = values.unique v w y y₂ (0 ∷ z) (0 ∷ z₂) c c₂ k.1 in
    let r = split y y₂ (0 ∷ z) (0 ∷ z₂) (ap length u.1) k.1 in
    rw (k.0, u.0, same_elements els els₂ (ap (drop 1) r.1))

pub same_file : {a b : Lso} {x y : List ℕ} → File a x → File b y → x ≡ y → a ≡ b
same_file (File.file {stored = m} {x} {z} l t els) (File.file {stored = n} {x = x₂} {z = z₂} l₂ t₂ els₂) e =
    let p = split (digits 4 m) (digits 4 n) (signature ++ (x ++ (padding ++ z))) (signature ++ (x₂ ++ (padding ++ z₂))) refl (ap (drop 2) e) in
    let same : m ≡ n = sym (number_digits 4 m l) ∙ (ap number p.0 ∙ number_digits 4 n l₂) in
    let k = same_text (padding ++ z) (padding ++ z₂) t t₂ (ap (drop 10) p.1) in
    rw (same, k.0, same_elements els els₂ (ap (drop 4) k.1))

-- ---- what is written is the file

elements : {s : List ℕ} {b : Body} {rs : List Record} → Spells s b rs → Right s rs → length (laid rs) ≤ limit.image → Elements b (write_body b)
elements Spells.none g h = Elements.none
elements {s} (Spells.element {p} {n} {rs} {qs} e c t) g h =
    let l = laid_length rs qs in
    let o = laid_size (R.Key p n) (rs ++ qs) in
    Elements.element (short_text e g.1.0 g.0.b) (encoded c (right_left s rs qs g.2) (omega arith)) (elements t (right_right s rs qs g.2) (omega arith))

pub write_length : (f : Lso) → length (write f) ≡ 6 + length_of (length f.name) (length (write_body f.body))
write_length f = omega (arith, length-append f.name (padding ++ write_body f.body))

-- what is written, within the limit, is the file
pub write_file : {s image : List ℕ} {f : Lso} → Images s f image → length image ≤ limit.image → length (write f) ≤ limit.bytes
    → File (saying (length (write f) - 6) f) (write f)
write_file {f} m h i =
    let l = laid_size (R.Lso f.stored m.place (length f.name)) m.records in
    let w = write_length f in
    let n : ℕ = length_of (length f.name) (length (write_body f.body)) in
    let same : length (write f) - 6 ≡ n = omega arith in
    rw same
    (File.file {stored = n} (omega arith) (short_text m.names m.stands m.fits.c) (elements m.spells m.right (omega (arith, ap length m.lies))))

-- ---- none is shorter

body_least : {b : Body} {x : List ℕ} → Elements b x → length (write_body b) ≤ length x
body_least Elements.none = le_refl _
body_least (Elements.element {v} {b} {y} {z} (short k h u) e t) =
    omega (
      arith,
      least e,
      body_least t,
      length-append k (amf0.write v ++ (0 ∷ write_body b)),
      length-append (amf0.write v) (0 ∷ write_body b),
      length-append k (y ++ (0 ∷ z)),
      length-append y (0 ∷ z),
    )

pub file_least : {f : Lso} {x : List ℕ} → File f x → length (write f) ≤ length x
file_least (File.file {b} {z} l (short k h u) t) = omega (arith, body_least t, length-append k (padding ++ write_body b), length-append k (padding ++ z))
