-- What is a file is read as that file, up to where no further element can be read. Its elements' records can stand in an image, spell the elements, and are
-- known but for places.
use Rattle.std.specs.Prelude.{◌+◌, ◌^◌, ◌≤◌, ◌<◌, ◌≡◌, ◌∷◌, ◌++◌, Ok}
use Rattle.wire.proofs.Kit.{ℕ, refl, sym, ap, ap₂, ◌∙◌, List, [], map, append_assoc, append-nil, true, arith, length}
use Rattle.wire.proofs.Kit.{length-append, lit<, map-append, zero, suc, replicate}
use Rattle.wire.specs.Number.{digits}
use Rattle.wire.specs.Utf8.{utf8}
use Rattle.wire.specs.Field.{to, bytes_at, text_at, got_text, past_tag}
use Rattle.wire.specs.Limit as limit
use Rattle.wire.proofs.Stands.{Here, cut, skip, inside, there, u32_at_lem, text_at_lem, tag_at_lem}
use Rattle.image.specs.declared.record.Record.{Record}
use Rattle.image.specs.Record.{bytes_of, unplaced}
use Rattle.image.specs.Taking.{Fits}
use Rattle.image.specs.Due.{Due, end, stop, seen, due, ◌>>=◌, Ends, Stops}
use Rattle.image.specs.Whole.{bytes}
use Rattle.amf0.specs.Reading.{top_value}
use Rattle.amf0.specs.Standard.{Sort, Tree, depth, UTF-8, Encodes}
use Rattle.amf0.specs.Standard.UTF-8.{short}
use Rattle.amf0.specs.Standard.Tree.{node, none, property, nil, cons}
use Rattle.amf0.specs.Shown.{Word, told, words, laid, Stands, Right}
use Rattle.amf0.specs.Shown.Word.{item, name}
use Rattle.amf0_theorems.proofs.Complete.{past}
use Rattle.amf0_theorems.proofs.Telling.{records_of, bytes_laid, reads}
use Rattle.amf0_theorems.proofs.Puts.{laid_append, right_both}
use Rattle.amf0_theorems.proofs.Alike.{read, of_tree_lem}
use Rattle.lso.specs.File.{Lso, Elements, File, deepest, version, signature, padding, Body}
use Rattle.lso.specs.Reading.{zeros_at, header_at, element_at, body_at, closing, Element, kept}
use Rattle.lso.specs.Shown.{told_body, Shows}
use Rattle.lso.specs.Written.{Images, Spells}
use Rattle.lso.proofs.Laws.{element_key}
use Rattle.image.specs.declared.record.Record.TheVariants as R
use Rattle.amf0_theorems.proofs.Spelling.{spelled}
use Rattle.image.proofs.Settle.{one_end, ends_not}
use Rattle.lso.proofs.Body.{Stood, Row, behind}

-- ---- the records of elements

-- the records of elements, but for places
abbrev pub of_body : Body → List Record
of_body Body.none = []
of_body (Body.element k v b) = R.Key 0 (length k) ∷ (of_tree_lem v [] ++ of_body b)

pub record Imaged (s : List ℕ) (b : Body) (rs : List Record) : Type 0 where
  pub right : Right s rs
  pub spells : Spells s b rs
  pub alike : map unplaced rs ≡ of_body b

pub imaged_none : {s : List ℕ} → Imaged s Body.none []
imaged_none = record { right = tt; spells = Spells.none; alike = refl }

-- ---- what is told and laid in parts

told_more : {k : Sort} (t : Tree k) (r q : List Word) → told t r ++ q ≡ told t (r ++ q)
told_more (node i t) r q = ap (λ w. item i ∷ w) (told_more t r q)
told_more none r q = refl
told_more (property k v ps) r q = ap (λ w. name k ∷ w) (told_more v (told ps r) q ∙ ap (told v) (told_more ps r q))
told_more nil r q = refl
told_more (cons v vs) r q = told_more v (told vs r) q ∙ ap (told v) (told_more vs r q)

words_append : (s : List ℕ) (a b : List Record) → words s (a ++ b) ≡ words s a ++ words s b
words_append s [] b = refl
words_append s (r ∷ a) b = rw (words_append s a b)

-- ---- an element

-- a reading that ends, and then only an end
record Closes (d e : Due) (n : ℕ) : Type 0 where
  ends : Ends e n
  same : records_of e ≡ records_of d

closes : (d : Due) (k : ℕ → Due) (m n : ℕ) → Ends d m → k m ≡ end n → Closes d (d >>= k) n
closes (end q) k m n h e =
    let f : k q ≡ end n = rw h at e in
    record { ends = rw f refl; same = ap records_of f }
closes (stop a p) k m n h e = absurd h
closes (seen fact d) k m n h e = let c = closes d k m n h e in record { ends = c.ends; same = c.same }
closes (due r p d) k m n h e = let c = closes d k m n h e in record { ends = c.ends; same = ap (λ rs. r ∷ rs) c.same }

-- elements that were read as those of b
record Reached (s : List ℕ) (es : List Element) (b : Body) : Type 0 where
  records : List Record
  tells : words s records ≡ told_body b
  images : length s ≤ limit.bytes → Imaged s b records
  lies : kept es ≡ laid records

-- an element is read as its key and value, and ends at n
element_reads : {k x y : List ℕ} {v : Tree Sort.value} (s r : List ℕ) (at n : ℕ) → UTF-8 k x → Encodes Sort.value v y → depth v ≤ limit.levels
    → Here s at (x ++ (y ++ (0 ∷ []))) r → n ≡ at + length (x ++ (y ++ (0 ∷ [])))
    → Ends (element_at s at) n × ((e : Element) (es : List Element) (b : Body) → Stood s at e → Reached s es b → Reached s (e ∷ es) (Body.element k v b))
element_reads {y} {v} s r at n (short k h u) e d g l =
    let q : ℕ = at + 2 + length k in
    let c = past k (y ++ (0 ∷ [])) g in
    let z = tag_at_lem (0 ∷ []) (skip y (0 ∷ []) c) (omega arith) in
    let p = reads limit.levels s ((0 ∷ []) ++ r) q e (cut y (0 ∷ []) c) d in
    let t = cut k (y ++ (0 ∷ [])) (skip (digits 2 (length k)) (k ++ (y ++ (0 ∷ []))) g) in
    let w : q + length y + 1 ≡ n = omega (arith, length-append k (y ++ (0 ∷ [])), length-append y (0 ∷ [])) in
    let b = closes (top_value s q) (closing s) (q + length y) n p.ends (rw z (ap end w)) in
    let f = element_key s at (text_at_lem 2 k (cut (digits 2 (length k) ++ k) (y ++ (0 ∷ [])) g) h u (omega arith)) in
    let key : Record = R.Key (at + 2) (length k) in
    let rs : List Record = records_of (top_value s q) in
    let same : records_of (element_at s at) ≡ key ∷ rs = ap records_of f ∙ ap (λ o. key ∷ o) b.same in
    let named : bytes_at (length k) s (at + 2) ≡ k = there (length k) t refl in
    let within : at + 2 + length k ≤ length s = omega (arith, inside g (omega arith), length-append k (y ++ (0 ∷ []))) in (
      rw f b.ends,
      λ o es a st m.
          record {
            records = key ∷ (rs ++ m.records);
            tells = ap₂ (λ w ws. name w ∷ ws) named (words_append s rs m.records ∙ rw (p.tells, m.tells) (told_more v [] (told_body a)));
            images = λ i.
                let x = m.images i in
                let all = read s y ((0 ∷ []) ++ r) q e (cut y (0 ∷ []) c) d i in
                record {
                  right = (
                    record { a = omega arith; b = h; c = lit< tt; d = lit< tt; zone = λ n z e. cc },
                    (record { inside = within; right = rw named u }, tt),
                    right_both s rs m.records all.right x.right,
                  );
                  spells = Spells.element named (spelled s v rs p.tells) x.spells;
                  alike = ap (λ y. R.Key 0 (length k) ∷ y) (map-append unplaced rs m.records ∙ rw (all.same, x.alike));
                };
            lies = rw (st.read, bytes_laid (element_at s at), same, m.lies) (sym (laid_append (key ∷ rs) m.records));
          },
    )

-- ---- the body

-- an element, and what stands behind it
pub element_more : (x y z : List ℕ) → (x ++ (y ++ (0 ∷ []))) ++ z ≡ x ++ (y ++ (0 ∷ z))
element_more x y z = simp append_assoc

-- elements that stand from a place to n, where the next stops, are those of a row from there on, and it ends there
module _ (s r : List ℕ) (m n a p b q : ℕ) (g : Stops (element_at s n) a p) (h : Stops (element_at s m) b q) where
  body_reads : {c : Body} {z : List ℕ} {at : ℕ} {es : List Element} → Elements c z → Row s at es m → deepest c ≤ limit.levels → Here s at z r
      → n ≡ at + length z → Reached s es c × (m ≡ n)
  body_reads Elements.none Row.none d i l = (record { records = []; tells = refl; images = λ l. imaged_none; lies = refl }, omega arith)
  body_reads {at} Elements.none (Row.more {e} t w) d i l =
      let same : n ≡ at = omega arith in
      absurd (ends_not (element_at s at) e.next a p t.ends (rw same at g))
  body_reads {at} (Elements.element {x} {y} {z} t e els) Row.none d i l =
      let one : List ℕ = x ++ (y ++ (0 ∷ [])) in
      let c = element_reads s (z ++ r) at (at + length one) t e (omega arith) (cut one z (rw (element_more x y z) i)) refl in
      absurd (ends_not (element_at s at) (at + length one) b q c.0 h)
  body_reads {at} (Elements.element {x} {y} {z} t e els) (Row.more {e = f} u w) d i l =
      let one : List ℕ = x ++ (y ++ (0 ∷ [])) in
      let more = element_more x y z in
      let j : Here s at (one ++ z) r = rw more i in
      let c = element_reads s (z ++ r) at (at + length one) t e (omega arith) (cut one z j) refl in
      let same : at + length one ≡ f.next = one_end (element_at s at) c.0 u.ends in
      let k = body_reads els w (omega arith) (rw same at (skip one z j)) (omega (arith, ap length more, length-append one z)) in
      (c.1 f _ _ u k.0, k.1)

-- ---- the file

-- a file is read from the front to n
pub record Reads (s : List ℕ) (f : Lso) (n : ℕ) : Type 0 where
  pub header : ℕ
  pub ended : Ends (header_at s) header
  pub body : (body_at s (length s) header).at ≡ n
  pub shows : length s ≤ limit.bytes → Shows s f (bytes (header_at s) ++ kept (body_at s (length s) header).elements)
  pub images : length s ≤ limit.bytes → Images s f (bytes (header_at s) ++ kept (body_at s (length s) header).elements)
  pub alike : (l : length s ≤ limit.bytes) → map unplaced (images l).records ≡ of_body f.body

-- zeros that stand there are read
zeros_at_lem : (n : ℕ) {s r : List ℕ} {at : ℕ} → Here s at (replicate n 0) r → zeros_at n s at ≡ Ok (to (at + n))
unfolding zeros_at
zeros_at_lem zero h = ap (λ q. Ok (to q)) (omega arith)
zeros_at_lem (suc n) h =
    rw (tag_at_lem (0 ∷ []) (cut (0 ∷ []) (replicate n 0) h) (omega arith)) (zeros_at_lem n (skip (0 ∷ []) (replicate n 0) h) ∙ ap (λ q. Ok (to q)) (omega arith))

-- a header is read past its signature, and what stands behind that
pub header_past : (stored : ℕ) (x : List ℕ) {s r : List ℕ} → stored < 256 ^ 4 → Here s 0 (version ++ (digits 4 stored ++ (signature ++ x))) r
    → (header_at s ≡ got_text stop (text_at 2 s 16) λ name n f. past_tag stop (zeros_at 4 s f) λ g. due (R.Lso stored name n) 0 (end g)) × Here s 16 x r
unfolding header_at
header_past stored x l g =
    let g₁ = skip version (digits 4 stored ++ (signature ++ x)) g in
    let g₂ = skip (digits 4 stored) (signature ++ x) g₁ in (
      rw (
        tag_at_lem version (cut version (digits 4 stored ++ (signature ++ x)) g) (omega arith),
        u32_at_lem stored (cut (digits 4 stored) (signature ++ x) g₁) l,
        tag_at_lem signature (cut signature x g₂) (omega arith),
      ),
      skip signature x g₂,
    )

pub header_reads : (stored : ℕ) (t z s r : List ℕ) → stored < 256 ^ 4 → length t < 256 ^ 2 → utf8 t ≡ true
    → Here s 0 (version ++ (digits 4 stored ++ (signature ++ ((digits 2 (length t) ++ t) ++ (padding ++ z))))) r
    → header_at s ≡ due (R.Lso stored 18 (length t)) 0 (end (18 + length t + 4))
header_reads stored t z s r l h u g =
    let x : List ℕ = digits 2 (length t) ++ t in
    let k = header_past stored (x ++ (padding ++ z)) l g in
    rw (k.0, text_at_lem 2 t (cut x (padding ++ z) k.1) h u (omega arith), zeros_at_lem 4 (cut padding z (past t (padding ++ z) k.1)))

pub file_reads : {f : Lso} {x : List ℕ} → File f x → (s r : List ℕ) (a q n : ℕ) → deepest f.body ≤ limit.levels → Here s 0 x r → n ≡ length x
    → Stops (element_at s n) a q → Reads s f n
unfolding bytes
file_reads (File.file {stored} {b} {z} l (short t h u) els) s r a q n d g i e =
    let x : List ℕ = digits 2 (length t) ++ t in
    let p : ℕ = 18 + length t + 4 in
    let g₃ = (header_past stored (x ++ (padding ++ z)) l g).1 in
    let g₄ = past t (padding ++ z) g₃ in
    let record₀ : Record = R.Lso stored 18 (length t) in
    let f = header_reads stored t z s r l h u g in
    let ended : Ends (header_at s) p = rw f refl in
    let w = behind s p ended in
    let o = body_reads s r (body_at s (length s) p).at n a q w.answer w.place e w.stopped els w.row d (skip padding z g₄)
    (omega (arith, length-append t (padding ++ z))) in
    let m = o.0 in
    let lies : bytes (header_at s) ++ kept (body_at s (length s) p).elements ≡ laid (record₀ ∷ m.records) =
    ap (λ (y : Due). bytes y ++ kept (body_at s (length s) p).elements) f ∙ rw (append-nil (bytes_of record₀), m.lies) in
    let named : bytes_at (length t) s 18 ≡ t = there (length t) (cut t (padding ++ z) (skip (digits 2 (length t)) (t ++ (padding ++ z)) g₃)) refl in
    let stands : Stands s 18 (length t) = record { inside = omega (arith, inside g₃ (omega arith), length-append t (padding ++ z)); right = rw named u } in
    let fits : Fits record₀ = record { a = l; b = lit< tt; c = h; d = lit< tt; zone = λ n z e. cc } in
    record {
      header = p;
      ended = ended;
      body = o.1;
      shows = λ i.
          record {
            place = 18;
            records = m.records;
            fits = fits;
            stands = stands;
            right = (m.images i).right;
            names = named;
            tells = m.tells;
            lies = lies;
          };
      images = λ i.
          record {
            place = 18;
            records = m.records;
            fits = fits;
            stands = stands;
            names = named;
            right = (m.images i).right;
            spells = (m.images i).spells;
            lies = lies;
          };
      alike = λ i. (m.images i).alike;
    }
