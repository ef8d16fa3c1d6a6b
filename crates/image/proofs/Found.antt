-- A record that stands in an image is found there, and only one that stands there is found.
use Rattle.std.specs.Prelude.{◌+◌, ◌^◌, ◌≤◌, ◌<◌, ◌≡◌, ◌∷◌, ◌++◌, Ok, Err, None}
use Rattle.wire.proofs.Kit.{ℕ, refl, sym, ◌∙◌, List, [], Bool, true, false, add_assoc, arith, length, drop, length-append}
use Rattle.wire.proofs.Kit.{drop-append_seam, leb, eqb, lit<, leb-true, eqb-true}
use Rattle.wire.specs.declared.cursor.Cursor.{Cursor}
use Rattle.wire.specs.Choice.{pick}
use Rattle.wire.specs.Number.{digits, Bytes}
use Rattle.wire.specs.Field.{to, bytes_at, u8_at, u16_at, u24_at, u32_at, u64_at, got, got_text, got_to, text_to, Parsed}
use Rattle.wire.proofs.Laws.{picked, length_digits}
use Rattle.wire.proofs.Stands.{Here, cut, skip, join, inside, there, stood, byte_at, u8_at_lem, u16_at_lem, u24_at_lem, u32_at_lem, u64_at_lem, Stood, number_stood, end8, end16, end32, end64}
use Rattle.image.specs.declared.record.Record.{Record}
use Rattle.image.specs.declared.record.Record.TheVariants.{Number, Boolean, Text, Object, Null, Undefined, Reference, EcmaArray, ObjectEnd, StrictArray, Date, Unsupported, Xml, TypedObject, Key, Packet, Header, Message, Lso}
use Rattle.image.specs.Record.{field_bytes, bytes_of, size, bit_of, layout_of}
use Rattle.image.specs.Taking.{flag_at, short_at, long_at, got_flag, Body, bad, found, u16, u32, u64, flag, short, long, zoned, Line, lines, body_in, body_at, record_at, Small, Fits}
use Rattle.image.proofs.Laws.{size_bytes, size_some}
use Rattle.wire.specs.Answer.{denied}
use Rattle.image.specs.Taking.{Taken, taken_to, flag_to}
use Rattle.wire.proofs.Same.{ok_first, some_first, some_second}

-- ---- a record that stands there is found

module _ {s : List ℕ} {p : ℕ} {y z : List ℕ} where
  here8 : (n : ℕ) → n < 256 ^ 1 → Here s p (digits 1 n ++ y) z → u8_at s p ≡ got_to n (to (p + 1))
  here8 n b h = u8_at_lem n (cut (digits 1 n) y h) b

  here16 : (n : ℕ) → n < 256 ^ 2 → Here s p (digits 2 n ++ y) z → u16_at s p ≡ got_to n (to (p + 2))
  here16 n b h = u16_at_lem n (cut (digits 2 n) y h) b

  here24 : (n : ℕ) → n < 256 ^ 3 → Here s p (digits 3 n ++ y) z → u24_at s p ≡ got_to n (to (p + 3))
  here24 n b h = u24_at_lem n (cut (digits 3 n) y h) b

  here32 : (n : ℕ) → n < 256 ^ 4 → Here s p (digits 4 n ++ y) z → u32_at s p ≡ got_to n (to (p + 4))
  here32 n b h = u32_at_lem n (cut (digits 4 n) y h) b

  here64 : (n : ℕ) → n < 256 ^ 8 → Here s p (digits 8 n ++ y) z → u64_at s p ≡ got_to n (to (p + 8))
  here64 n b h = u64_at_lem n (cut (digits 8 n) y h) b

module _ {s : List ℕ} {p : ℕ} {y z : List ℕ} where
  here_flag : (b : Bool) → Here s p (digits 1 (bit_of b) ++ y) z → flag_at s p ≡ flag_to b (to (p + 1))
  unfolding flag_at
  here_flag true h = rw (here8 1 (lit< tt) h)
  here_flag false h = rw (here8 0 (lit< tt) h)

  here_short : (a n : ℕ) → a < 256 ^ 3 → n < 256 ^ 2 → Here s p (digits 3 a ++ (digits 2 n ++ y)) z → short_at s p ≡ text_to a n (to (p + 3 + 2))
  unfolding short_at
  here_short a n b d h = rw (here24 a b h, here16 n d (skip (digits 3 a) _ h))

  here_long : (a n : ℕ) → a < 256 ^ 3 → n < 256 ^ 3 → Here s p (digits 3 a ++ (digits 3 n ++ y)) z → long_at s p ≡ text_to a n (to (p + 3 + 3))
  unfolding long_at
  here_long a n b d h = rw (here24 a b h, here24 n d (skip (digits 3 a) _ h))

pub found_here : (s y : List ℕ) (at : ℕ) (r : Record) → Fits r → Here s at (bytes_of r) y → record_at s at ≡ taken_to r (to (at + size r))
unfolding record_at bytes_of body_at size u16 u32 u64 flag short long zoned
found_here s y at (Number n) f h =
    let h1 = skip (digits 1 0x00) _ h in
    rw (here8 0x00 (lit< tt) h, here64 n f.a h1) (simp add_assoc)
found_here s y at (Boolean b) f h =
    let h1 = skip (digits 1 0x01) _ h in
    rw (here8 0x01 (lit< tt) h, here_flag b h1) (simp add_assoc)
found_here s y at (Text p n) f h =
    let h1 = skip (digits 1 0x02) _ h in
    rw (here8 0x02 (lit< tt) h, here_long p n f.a f.b h1) (simp add_assoc)
found_here s y at (Xml p n) f h =
    let h1 = skip (digits 1 0x0F) _ h in
    rw (here8 0x0F (lit< tt) h, here_long p n f.a f.b h1) (simp add_assoc)
found_here s y at Object f h = rw (here8 0x03 (lit< tt) h)
found_here s y at Null f h = rw (here8 0x05 (lit< tt) h)
found_here s y at Undefined f h = rw (here8 0x06 (lit< tt) h)
found_here s y at ObjectEnd f h = rw (here8 0x09 (lit< tt) h)
found_here s y at Unsupported f h = rw (here8 0x0D (lit< tt) h)
found_here s y at (Reference n) f h =
    let h1 = skip (digits 1 0x07) _ h in
    rw (here8 0x07 (lit< tt) h, here16 n f.a h1) (simp add_assoc)
found_here s y at (EcmaArray n) f h =
    let h1 = skip (digits 1 0x08) _ h in
    rw (here8 0x08 (lit< tt) h, here32 n f.a h1) (simp add_assoc)
found_here s y at (StrictArray n) f h =
    let h1 = skip (digits 1 0x0A) _ h in
    rw (here8 0x0A (lit< tt) h, here32 n f.a h1) (simp add_assoc)
found_here s y at (Date n true z) f h =
    let h1 = skip (digits 1 0x0B) _ h in
    let h2 = skip (digits 8 n) _ h1 in
    let h3 = skip (digits 1 1) _ h2 in
    rw (here8 0x0B (lit< tt) h, here64 n f.a h1, here_flag true h2, here16 z f.c h3) (simp add_assoc)
found_here s y at (Date n false z) f h =
    let h1 = skip (digits 1 0x0B) _ h in
    let h2 = skip (digits 8 n) _ h1 in
    let h3 = skip (digits 1 0) _ h2 in
    rw (here8 0x0B (lit< tt) h, here64 n f.a h1, here_flag false h2, here16 z f.c h3, f.zone n z refl) (simp add_assoc)
found_here s y at (TypedObject p n) f h =
    let h1 = skip (digits 1 0x10) _ h in
    rw (here8 0x10 (lit< tt) h, here_short p n f.a f.b h1) (simp add_assoc)
found_here s y at (Key p n) f h =
    let h1 = skip (digits 1 0x20) _ h in
    rw (here8 0x20 (lit< tt) h, here_short p n f.a f.b h1) (simp add_assoc)
found_here s y at (Packet k m) f h =
    let h1 = skip (digits 1 0x30) _ h in
    let h2 = skip (digits 2 k) _ h1 in
    rw (here8 0x30 (lit< tt) h, here16 k f.a h1, here16 m f.b h2) (simp add_assoc)
found_here s y at (Header p n b) f h =
    let h1 = skip (digits 1 0x31) _ h in
    let h2 = skip (digits 2 n) _ (skip (digits 3 p) _ h1) in
    rw (here8 0x31 (lit< tt) h, here_short p n f.a f.b h1, here_flag b h2) (simp add_assoc)
found_here s y at (Message p n q m) f h =
    let h1 = skip (digits 1 0x32) _ h in
    let h2 = skip (digits 2 n) _ (skip (digits 3 p) _ h1) in
    rw (here8 0x32 (lit< tt) h, here_short p n f.a f.b h1, here_short q m f.c f.d h2) (simp add_assoc)
found_here s y at (Lso l p n) f h =
    let h1 = skip (digits 1 0x33) _ h in
    let h2 = skip (digits 4 l) _ h1 in
    rw (here8 0x33 (lit< tt) h, here32 l f.a h1, here_short p n f.b f.c h2) (simp add_assoc)

pub found_again : (x y : List ℕ) (r : Record) → Fits r → record_at (x ++ (bytes_of r ++ y)) (length x) ≡ taken_to r (to (length x + size r))
found_again x y r f = found_here _ y (length x) r f (record { same = drop-append_seam x (bytes_of r ++ y) })

-- ---- only a record that stands there is found

-- The bytes x have been read from a place on, up to p.
record Past (s : List ℕ) (at : ℕ) (x : List ℕ) (p : ℕ) : Type 0 where
  place : p ≡ at + length x
  rest : List ℕ
  here : Here s at x rest

-- one field more, of w bytes
record More (s : List ℕ) (at : ℕ) (x : List ℕ) (w n q : ℕ) : Type 0 where
  small : n < 256 ^ w
  past : Past s at (x ++ digits w n) q

past_row : {s : List ℕ} {at p w : ℕ} {x y z : List ℕ} → Past s at x p → Here s p y z → length y ≡ w → Past s at (x ++ y) (p + w)
past_row {x} {y} {z} h g l =
    record { place = rw length-append (omega (arith, h.place)); rest = z; here = join h.here refl (rw h.place at g) }

past_more : {s : List ℕ} {at p w n : ℕ} {x : List ℕ} → Past s at x p → Stood w s p n → More s at x w n (p + w)
past_more {w} {n} h d = record { small = d.bound; past = past_row h d.here (length_digits w n) }

-- the composed fields as their bytes
module _ (s : List ℕ) (p : ℕ) where
  flag_as : (k : Bool → Body) → flag k s p ≡ got bad (u8_at s p) (λ n q. pick (eqb n 0) (k false s q) (pick (eqb n 1) (k true s q) None))
  unfolding flag flag_at
  flag_as k = go (u8_at s p)
    where
      or : (a b : Bool) (q : ℕ)
          → got_flag (pick a (flag_to false (to q)) (pick b (flag_to true (to q)) None)) (λ b q. k b s q) ≡ pick a (k false s q) (pick b (k true s q) None)
      or true b q = refl
      or false true q = refl
      or false false q = refl

      go : (o : Parsed ℕ)
          → got_flag (got (λ a p. None) o λ n p. pick (eqb n 0) (flag_to false (to p)) (pick (eqb n 1) (flag_to true (to p)) None)) (λ b q. k b s q)
          ≡ got bad o (λ n q. pick (eqb n 0) (k false s q) (pick (eqb n 1) (k true s q) None))
      go (Ok x) = or (eqb x.0 0) (eqb x.0 1) x.1.at
      go (Err r) = refl

  -- a text's place and then its length, of either width
  text_as : (f : ℕ → Parsed ℕ) (k : ℕ → ℕ → Body)
      → got_text bad (got denied (u24_at s p) λ a q. got denied (f q) λ n e. text_to a n (to e)) (λ a n e. k a n s e)
      ≡ got bad (u24_at s p) (λ a q. got bad (f q) (λ n e. k a n s e))
  text_as f k = go (u24_at s p)
    where
      then : (a : ℕ) (o : Parsed ℕ) → got_text bad (got denied o λ n e. text_to a n (to e)) (λ a n e. k a n s e) ≡ got bad o (λ n e. k a n s e)
      then a (Ok x) = refl
      then a (Err r) = refl

      go : (o : Parsed ℕ)
          → got_text bad (got denied o λ a q. got denied (f q) λ n e. text_to a n (to e)) (λ a n e. k a n s e)
          ≡ got bad o (λ a q. got bad (f q) (λ n e. k a n s e))
      go (Ok x) = then x.0 (f x.1.at)
      go (Err r) = refl

  short_as : (k : ℕ → ℕ → Body) → short k s p ≡ got bad (u24_at s p) (λ a q. got bad (u16_at s q) (λ n e. k a n s e))
  unfolding short short_at
  short_as k = text_as (u16_at s) k

  long_as : (k : ℕ → ℕ → Body) → long k s p ≡ got bad (u24_at s p) (λ a q. got bad (u24_at s q) (λ n e. k a n s e))
  unfolding long long_at
  long_as k = text_as (u24_at s) k

-- what follows from a record that is found
abbrev Into : Record → Cursor → Type 0 → Taken → Type 0
Into r c Z t = t ≡ taken_to r c → Z

no : {Z : Type 0} {r : Record} {c : Cursor} → None ≡ taken_to r c → Z
no e = let z : ◌≡◌ {A = ℕ} 0 1 = cc in absurd (omega arith)

end24 : {A : Type 0} (P : A → Type 0) (stop : ℕ → ℕ → A) → ((a p : ℕ) → P (stop a p)) → (s : List ℕ) → Bytes s → (at : ℕ) (k : ℕ → ℕ → A)
    → ((n : ℕ) → Stood 3 s at n → P (k n (at + 3))) → P (got stop (u24_at s at) k)
unfolding u24_at
end24 P stop halts s bytes at k g =
    picked (λ (u : Parsed ℕ). P (got stop u k)) (leb (at + 3) (length s)) _ _ (λ h. g _ (number_stood s bytes at 3 (leb-true _ _ h))) (λ h. halts 2 at)

-- a field was read, and then the rest of the body
module _ {s : List ℕ} (bytes : Bytes s) {at p : ℕ} {x : List ℕ} {r : Record} {c : Cursor} {Z : Type 0} (h : Past s at x p) where
  u16_stood : (k : ℕ → Body) → u16 k s p ≡ taken_to r c → ((n q : ℕ) → More s at x 2 n q → k n s q ≡ taken_to r c → Z) → Z
  unfolding u16
  u16_stood k e f = end16 (Into r c Z) bad (λ a b. no) s bytes p (λ n q. k n s q) (λ n d. f n (p + 2) (past_more h d)) e

  u32_stood : (k : ℕ → Body) → u32 k s p ≡ taken_to r c → ((n q : ℕ) → More s at x 4 n q → k n s q ≡ taken_to r c → Z) → Z
  unfolding u32
  u32_stood k e f = end32 (Into r c Z) bad (λ a b. no) s bytes p (λ n q. k n s q) (λ n d. f n (p + 4) (past_more h d)) e

  u64_stood : (k : ℕ → Body) → u64 k s p ≡ taken_to r c → ((n q : ℕ) → More s at x 8 n q → k n s q ≡ taken_to r c → Z) → Z
  unfolding u64
  u64_stood k e f = end64 (Into r c Z) bad (λ a b. no) s bytes p (λ n q. k n s q) (λ n d. f n (p + 8) (past_more h d)) e

  flag_stood : (k : Bool → Body) → flag k s p ≡ taken_to r c → ((b : Bool) (q : ℕ) → Past s at (x ++ digits 1 (bit_of b)) q → k b s q ≡ taken_to r c → Z) → Z
  flag_stood k e f =
      end8 (Into r c Z) bad (λ a b. no) s bytes p (λ n q. pick (eqb n 0) (k false s q) (pick (eqb n 1) (k true s q) None))
      (λ n d.
      let m : Past s at (x ++ (n ∷ [])) (p + 1) = past_row h d refl in
      picked (Into r c Z) (eqb n 0) _ _
      (λ t. f false (p + 1) (rw (eqb-true n 0 t) at m))
      (λ _. picked (Into r c Z) (eqb n 1) _ _ (λ t. f true (p + 1) (rw (eqb-true n 1 t) at m)) (λ _. no)))
      (sym (flag_as s p k) ∙ e)

  short_stood : (k : ℕ → ℕ → Body) → short k s p ≡ taken_to r c
      → ((a n q : ℕ) → a < 256 ^ 3 → n < 256 ^ 2 → Past s at ((x ++ digits 3 a) ++ digits 2 n) q → k a n s q ≡ taken_to r c → Z) → Z
  short_stood k e f =
      end24 (Into r c Z) bad (λ a b. no) s bytes p (λ a q. got bad (u16_at s q) (λ n e. k a n s e))
      (λ a d.
      end16 (Into r c Z) bad (λ a b. no) s bytes (p + 3) (λ n e. k a n s e)
      (λ n i. f a n (p + 3 + 2) d.bound i.bound (past_more (past_more h d).past i).past))
      (sym (short_as s p k) ∙ e)

  long_stood : (k : ℕ → ℕ → Body) → long k s p ≡ taken_to r c
      → ((a n q : ℕ) → a < 256 ^ 3 → n < 256 ^ 3 → Past s at ((x ++ digits 3 a) ++ digits 3 n) q → k a n s q ≡ taken_to r c → Z) → Z
  long_stood k e f =
      end24 (Into r c Z) bad (λ a b. no) s bytes p (λ a q. got bad (u24_at s q) (λ n e. k a n s e))
      (λ a d.
      end24 (Into r c Z) bad (λ a b. no) s bytes (p + 3) (λ n e. k a n s e)
      (λ n i. f a n (p + 3 + 3) d.bound i.bound (past_more (past_more h d).past i).past))
      (sym (long_as s p k) ∙ e)

-- What a record that is found says of the image.
pub record Held (s : List ℕ) (at : ℕ) (r : Record) (c : Cursor) : Type 0 where
  pub fits : Fits r
  pub next : c.at ≡ at + size r
  pub within : c.at ≤ length s
  pub same : bytes_at (size r) s at ≡ bytes_of r

-- the body's end
close : {s : List ℕ} {at p : ℕ} {x : List ℕ} {r : Record} {c : Cursor} → Past s at x p → (t : Record) → x ≡ bytes_of t → Fits t
    → taken_to t (to p) ≡ taken_to r c → Held s at r c
close {s} {at} {p} {x} {r} {c} h t w f e =
    let g : t ≡ r = some_first e in
    let i : to p ≡ c = some_second e in
    let l : length x ≡ size t = rw w (size_bytes t) in
    let o : Held s at t (to p) =
    record {
      fits = f;
      next = rw (← l) h.place;
      within = omega (arith, h.place, inside h.here (omega (arith, size_some t)));
      same = there (size t) h.here l ∙ w;
    }
    in
    rw (sym g, sym i) o

-- ---- the table, line by line

pub nil : 0 < 256 ^ 0
nil = lit< tt

pub bit_small : (b : Bool) → bit_of b < 256 ^ 1
bit_small true = lit< tt
bit_small false = lit< tt

pub fits : (r : Record) → Small (layout_of r).a → Small (layout_of r).b → Small (layout_of r).c → Small (layout_of r).d
    → ((n z : ℕ) → r ≡ Date n false z → z ≡ 0) → Fits r
fits r a b c d z = record { a = a; b = b; c = c; d = d; zone = z }

date_stood : {s : List ℕ} {at p : ℕ} {r : Record} {c : Cursor} (b : Bool) (n z : ℕ) → n < 256 ^ 8 → z < 256 ^ 2
    → Past s at (((0x0B ∷ [] ++ digits 8 n) ++ digits 1 (bit_of b)) ++ digits 2 z) p
    → zoned b z (found (Date n b z)) s p ≡ taken_to r c → Held s at r c
unfolding bytes_of zoned
date_stood true n z h j past e = close past (Date n true z) refl (fits (Date n true z) h (lit< tt) j nil (λ n z e. cc)) e
date_stood {s} {at} {p} {r} {c} false n z h j past e =
    picked (Into r c (Held s at r c)) (eqb z 0) _ _
    (λ t e. close past (Date n false z) refl (fits (Date n false z) h (lit< tt) j nil (λ m w e. let f : z ≡ w = cc in sym f ∙ eqb-true z 0 t)) e)
    (λ t. no)
    e

record Stands (s : List ℕ) (at : ℕ) (r : Record) (c : Cursor) (ls : List Line) : Type 0 where
  each : (k p : ℕ) → Past s at (k ∷ []) p → body_in ls k s p ≡ taken_to r c → Held s at r c

infixr 5 ◌⊕◌
◌⊕◌ : {s : List ℕ} {at : ℕ} {r : Record} {c : Cursor} {l : Line} {ls : List Line}
    → ((p : ℕ) → Past s at (l.kind ∷ []) p → l.body s p ≡ taken_to r c → Held s at r c) → Stands s at r c ls → Stands s at r c (l ∷ ls)
◌⊕◌ {s} {at} {r} {c} {l} {ls} f g =
    record {
      each = λ k p h.
          picked (Into r c (Held s at r c)) (eqb k l.kind) (l.body s p) (body_in ls k s p)
          (λ t. f p (rw (eqb-true k l.kind t) at h))
          (λ t. g.each k p h);
    }

stands : {s : List ℕ} (bytes : Bytes s) {at : ℕ} {r : Record} {c : Cursor} → Stands s at r c lines
unfolding bytes_of
stands bytes =
    (λ o h e. u64_stood bytes h _ e λ n o i e. close i.past (Number n) refl (fits (Number n) i.small nil nil nil (λ n z e. cc)) e)
    ⊕ (λ o h e. flag_stood bytes h _ e λ b o i e. close i (Boolean b) refl (fits (Boolean b) (bit_small b) nil nil nil (λ n z e. cc)) e)
    ⊕ (λ o h e. long_stood bytes h _ e λ p n o i₁ i₂ i e. close i (Text p n) refl (fits (Text p n) i₁ i₂ nil nil (λ n z e. cc)) e)
    ⊕ (λ o h e. long_stood bytes h _ e λ p n o i₁ i₂ i e. close i (Xml p n) refl (fits (Xml p n) i₁ i₂ nil nil (λ n z e. cc)) e)
    ⊕ (λ o h e. close h Object refl (fits Object nil nil nil nil (λ n z e. cc)) e)
    ⊕ (λ o h e. close h Null refl (fits Null nil nil nil nil (λ n z e. cc)) e)
    ⊕ (λ o h e. close h Undefined refl (fits Undefined nil nil nil nil (λ n z e. cc)) e)
    ⊕ (λ o h e. close h ObjectEnd refl (fits ObjectEnd nil nil nil nil (λ n z e. cc)) e)
    ⊕ (λ o h e. close h Unsupported refl (fits Unsupported nil nil nil nil (λ n z e. cc)) e)
    ⊕ (λ o h e. u16_stood bytes h _ e λ n o i e. close i.past (Reference n) refl (fits (Reference n) i.small nil nil nil (λ n z e. cc)) e)
    ⊕ (λ o h e. u32_stood bytes h _ e λ n o i e. close i.past (EcmaArray n) refl (fits (EcmaArray n) i.small nil nil nil (λ n z e. cc)) e)
    ⊕ (λ o h e. u32_stood bytes h _ e λ n o i e. close i.past (StrictArray n) refl (fits (StrictArray n) i.small nil nil nil (λ n z e. cc)) e)
    ⊕ (λ o h e.
    u64_stood bytes h _ e λ n o i e.
    flag_stood bytes i.past _ e λ b o j e.
    u16_stood bytes j _ e λ z o k e. date_stood b n z i.small k.small k.past e)
    ⊕ (λ o h e. short_stood bytes h _ e λ p n o i₁ i₂ i e. close i (TypedObject p n) refl (fits (TypedObject p n) i₁ i₂ nil nil (λ n z e. cc)) e)
    ⊕ (λ o h e. short_stood bytes h _ e λ p n o i₁ i₂ i e. close i (Key p n) refl (fits (Key p n) i₁ i₂ nil nil (λ n z e. cc)) e)
    ⊕ (λ o h e. u16_stood bytes h _ e λ k o i e. u16_stood bytes i.past _ e λ m o j e. close j.past (Packet k m) refl (fits (Packet k m) i.small j.small nil nil (λ n z e. cc)) e)
    ⊕ (λ o h e. short_stood bytes h _ e λ p n o i₁ i₂ i e. flag_stood bytes i _ e λ b o j e. close j (Header p n b) refl (fits (Header p n b) i₁ i₂ (bit_small b) nil (λ n z e. cc)) e)
    ⊕ (λ o h e. short_stood bytes h _ e λ p n o i₁ i₂ i e. short_stood bytes i _ e λ q m o j₁ j₂ j e. close j (Message p n q m) refl (fits (Message p n q m) i₁ i₂ j₁ j₂ (λ n z e. cc)) e)
    ⊕ (λ o h e. u32_stood bytes h _ e λ l o i e. short_stood bytes i.past _ e λ p n o j₁ j₂ j e. close j (Lso l p n) refl (fits (Lso l p n) i.small j₁ j₂ nil (λ n z e. cc)) e)
    ⊕ record { each = λ k p h. no }

pub found_stood : (s : List ℕ) → Bytes s → (at : ℕ) (r : Record) (c : Cursor) → record_at s at ≡ taken_to r c → Held s at r c
unfolding record_at body_at
found_stood s bytes at r c e =
    end8 (Into r c (Held s at r c)) bad (λ a b. no) s bytes at (λ k p. body_in lines k s p)
    (λ k d. (stands bytes).each k (at + 1) (record { place = refl; rest = drop (at + 1) s; here = d }))
    e

-- the byte at its place is its kind
pub found_kind : (s : List ℕ) → Bytes s → (at : ℕ) (r : Record) (c : Cursor) → record_at s at ≡ taken_to r c → (k : ℕ) (d : Cursor) → u8_at s at ≡ got_to k d
    → k ≡ (layout_of r).kind
unfolding bytes_of
found_kind s bytes at r c e k d f =
    let l = layout_of r in
    let h = found_stood s bytes at r c e in
    let w : Here s at (bytes_of r) (drop (at + size r) s) = rw h.same at (stood (size r) s at) in
    let g = byte_at l.kind (cut (l.kind ∷ []) (field_bytes l.a ++ (field_bytes l.b ++ (field_bytes l.c ++ field_bytes l.d))) w) in
    ok_first (sym f ∙ g)
