-- What is read as a file is one.
use Rattle.std.specs.Prelude.{◌+◌, ◌^◌, ◌≤◌, ◌<◌, ◌≡◌, ◌∷◌, ◌++◌, Ok, Err, Result}
use Rattle.wire.proofs.Kit.{ℕ, refl, sym, ap, ◌∙◌, List, [], append_assoc, arith, length, take, drop, length-append, take_at}
use Rattle.wire.specs.Number.{digits, Bytes}
use Rattle.wire.specs.Field.{tag_at, past_tag}
use Rattle.wire.specs.Limit as limit
use Rattle.wire.proofs.Laws.{tag_next, length_digits}
use Rattle.wire.proofs.Stands.{Here, join, inside, tag_ends, end32, end_text}
use Rattle.image.specs.Due.{Due, end, stop, Ends}
use Rattle.amf0.specs.Reading.{top_value}
use Rattle.amf0.specs.Standard.{Sort, UTF-8}
use Rattle.amf0.specs.Standard.UTF-8.{short}
use Rattle.amf0_theorems.proofs.Sound as amf0
use Rattle.amf0_theorems.proofs.Sound.{bind_ends, keyed}
use Rattle.lso.specs.File.{Body, Lso, Elements, File, deepest, version, signature, padding}
use Rattle.lso.specs.Reading.{header_at, closing, element_at, Element, body_at}
use Rattle.lso.proofs.Body.{Row, behind}
use Rattle.lso.proofs.Stands.{go_tag, go_zeros}
use Rattle.lso_theorems.specs.Refusal.{Begins, Heads}
use Rattle.wire.specs.Answer.{Verdict}
use Rattle.wire.specs.declared.cursor.Cursor.{Cursor}

-- ---- the body

-- from the place `at` of s to n stand elements
record FoundBody (s : List ℕ) (at n : ℕ) : Type 0 where
  body : Body
  row : List ℕ
  rest : List ℕ
  elements : Elements body row
  here : Here s at row rest
  next : n ≡ at + length row
  deep : deepest body ≤ limit.levels

-- the zero behind a value
closing_sound : (s : List ℕ) (at n : ℕ) → Ends (closing s at) n → Here s at (0 ∷ []) (drop n s) × (n ≡ at + 1)
closing_sound s at n = go (tag_at (0 ∷ []) s at) refl
  where
    go : (t : Result Cursor Verdict) → tag_at (0 ∷ []) s at ≡ t → Ends (past_tag stop t end) n → Here s at (0 ∷ []) (drop n s) × (n ≡ at + 1)
    go (Ok c) e f = let r = tag_next s at (0 ∷ []) c e in let m : n ≡ at + 1 = omega arith in (rw m (tag_ends (0 ∷ []) s at c e), m)
    go (Err r) e f = absurd f

module _ {s : List ℕ} (bs : Bytes s) where
  -- an element, and what stands behind it
  element_sound : (at m : ℕ) {n : ℕ} → Ends (element_at s at) m → FoundBody s m n → FoundBody s at n
  unfolding element_at
  element_sound at m {n} f b =
      end_text (λ d. Ends d m → FoundBody s at n) stop (λ a p e. absurd e) s bs at 2 _
      (λ k r h l u e.
      let q : ℕ = at + 2 + length k in
      bind_ends (top_value s q) (closing s) m e λ o g i. go k r o h (short k l u) (amf0.sound limit.levels s q o bs g) (closing_sound s o m i)) f
    where
      go : (k r : List ℕ) (o : ℕ) → Here s at (digits 2 (length k) ++ k) r → UTF-8 k (digits 2 (length k) ++ k)
          → amf0.Found Sort.value limit.levels s (at + 2 + length k) o → Here s o (0 ∷ []) (drop m s) × (m ≡ o + 1) → FoundBody s at n
      go k r o h t v z =
          record {
            body = Body.element k v.tree b.body;
            row = (digits 2 (length k) ++ k) ++ (v.row ++ (0 ∷ b.row));
            rest = b.rest;
            elements = Elements.element t v.encodes b.elements;
            here = keyed k h (join v.here refl (rw v.next at (join z.0 refl (rw z.1 at b.here))));
            next = omega (arith, b.next, z.1, v.next, length-append k (v.row ++ (0 ∷ b.row)), length-append v.row (0 ∷ b.row));
            deep = omega (arith, v.deep, b.deep);
          }

  body_sound : {at n : ℕ} {es : List Element} → Row s at es n → FoundBody s at n
  body_sound {at} Row.none =
      record { body = Body.none; row = []; rest = drop at s; elements = Elements.none; here = record { same = refl }; next = omega arith; deep = omega arith }
  body_sound {at} (Row.more {e} t r) = element_sound at e.next t.ends (body_sound r)

-- ---- the file

-- up to the place p of s stands a header
record FoundHeader (s : List ℕ) (p : ℕ) : Type 0 where
  stored : ℕ
  name : List ℕ
  rest : List ℕ
  bound : stored < 256 ^ 4
  text : UTF-8 name (digits 2 (length name) ++ name)
  here : Here s 0 (version ++ (digits 4 stored ++ (signature ++ ((digits 2 (length name) ++ name) ++ padding)))) rest
  next : p ≡ 22 + length name

header_sound : (s : List ℕ) → Bytes s → (p : ℕ) → Ends (header_at s) p → FoundHeader s p
unfolding header_at
header_sound s bs p =
    let P : Due → Type 0 = λ d. Ends d p → FoundHeader s p in
    let halts : (a q : ℕ) → P (stop a q) = λ a q e. absurd e in
    go_tag P stop s 0 version _ (omega arith)
    (λ v i. end32 P stop halts s bs 2 _ λ n st.
    let j : 6 ≤ length s = omega (arith, inside st.here (omega arith)) in
    go_tag P stop s 6 signature _ j
    (λ g k. end_text P stop halts s bs 16 2 _ λ t r h b u.
    let l : 18 + length t ≤ length s = omega (arith, inside h (omega arith)) in
    go_zeros P stop s 4 (18 + length t) _ l
    (λ q f z m e.
    record {
      stored = n;
      name = t;
      rest = drop q s;
      bound = st.bound;
      text = short t b u;
      here = join v refl (join st.here (length_digits 4 n) (join g refl (keyed t h z)));
      next = omega arith;
    })
    (λ a q w. halts a q)) (λ a q w. halts a q)) (λ a q w. halts a q)

-- a file that stands at the front
pub begins : {s x r : List ℕ} {f : Lso} {n : ℕ} → File f x → Here s 0 x r → n ≡ length x → deepest f.body ≤ limit.levels → Begins s f n
begins {x} {r} {n} g h l d =
    record { file = rw (ap (take n) h.same ∙ take_at x r n (sym l)) g; within = omega (arith, ap length h.same, length-append x r); deep = d }

-- a header, and what stands behind it
pub header_more : (d x z : List ℕ) → (version ++ (d ++ (signature ++ (x ++ padding)))) ++ z ≡ version ++ (d ++ (signature ++ (x ++ (padding ++ z))))
header_more d x z = simp append_assoc

module _ (s : List ℕ) (bs : Bytes s) (p : ℕ) (e : Ends (header_at s) p) where
  -- a header that is read stands at the front
  pub end_heads : Heads s p
  end_heads =
      let h = header_sound s bs p e in
      record {
        stored = h.stored;
        name = h.name;
        begins = begins (File.file h.bound h.text Elements.none) h.here (omega (arith, h.next, length-append h.name padding)) (omega arith);
      }

  -- and a file up to where the body is read
  pub file_sound : (f : Lso) × Begins s f (body_at s (length s) p).at
  file_sound = go (header_sound s bs p e) (body_sound bs (behind s p e).row)
    where
      go : {n : ℕ} → FoundHeader s p → FoundBody s p n → (f : Lso) × Begins s f n
      go h b =
          let d : List ℕ = digits 4 h.stored in
          let x : List ℕ = digits 2 (length h.name) ++ h.name in
          let head : List ℕ = version ++ (d ++ (signature ++ (x ++ padding))) in
          let l : length head ≡ p = omega (arith, h.next, length-append h.name padding) in
          let o : 0 + p ≡ p = omega arith in
          let same = header_more d x b.row in
          let w : Here s (0 + p) b.row b.rest = rw o b.here in
          let g = rw same at (join h.here l w) in (
            record { stored = h.stored; name = h.name; body = b.body },
            begins (File.file h.bound h.text b.elements) g (omega (arith, b.next, ap length same, length-append head b.row)) b.deep,
          )
