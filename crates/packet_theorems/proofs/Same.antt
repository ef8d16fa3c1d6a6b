-- The fields round a packet's values, and what the bytes that they were read from settle: where the same bytes stand, the same is read.
use Rattle.std.specs.Prelude.{◌+◌, ◌≤◌, ◌<◌, ◌≡◌, Ok, Err, Result}
use Rattle.wire.proofs.Kit.{ℕ, refl, sym, ap, ◌∙◌, List, Bool, true, false, arith, length, get_or, eqb, le-leb}
use Rattle.wire.specs.Choice.{pick}
use Rattle.wire.specs.Number.{number}
use Rattle.wire.specs.Utf8.{utf8}
use Rattle.wire.specs.Field.{to, bytes_at, whole, equal, u8_at, u16_at, u32_at, str_at, text_at, tag_at, got, past_tag, got_to, got_at, text_to, Parsed}
use Rattle.wire.specs.declared.cursor.Cursor.{Cursor}
use Rattle.wire.proofs.Laws.{u8_next, u32_next, text_next, same_held}
use Rattle.wire.proofs.Stands.{length_bytes}
use Rattle.packet.specs.declared.head.Entry.{Entry}
use Rattle.packet.specs.Head.{bit_of, entry, header_at, message_at, head_at, Head}
use Rattle.packet.specs.Entry.{Ending, done, halt, reach}
use Rattle.amf0_theorems.proofs.Spans.{bytes_same}
use Rattle.wire.specs.Answer.{denied, Verdict}

-- ---- what comes of a field, by its two ends

module _ {A : Type 0} (P : A → Type 0) (stop : ℕ → ℕ → A) (halts : (a p : ℕ) → P (stop a p)) where
  pub on_end : (x : Ending) (k : ℕ → A) → ((n : ℕ) → x ≡ done n → P (k n)) → P (reach stop x k)
  on_end (done n) k g = g n refl
  on_end (halt a p) k g = halts a p

  pub on_field : {B : Type 0} (x : Parsed B) (k : B → ℕ → A) → ((b : B) (c : Cursor) → x ≡ got_to b c → P (k b c.at)) → P (got stop x k)
  on_field (Ok x) k g = g x.0 x.1 refl
  on_field (Err r) k g = halts r.answer r.place

  pub on_tag : (x : Result Cursor Verdict) (k : ℕ → A) → ((c : Cursor) → x ≡ Ok c → P (k c.at)) → P (past_tag stop x k)
  on_tag (Ok c) k g = g c refl
  on_tag (Err r) k g = halts r.answer r.place

-- what was refused was not read
pub not_read : {P A : Type 0} {x : A} (a p : ℕ) → denied a p ≡ Ok x → P
not_read a p q = let z : ◌≡◌ {A = ℕ} 0 1 = cc in absurd (omega arith)

-- ---- the same bytes are the same fields

-- s and t are the same from a place up to another
pub record Same (s t : List ℕ) (at next : ℕ) : Type 0 where
  pub within : next ≤ length s
  pub fits : next ≤ length t
  pub same : (i : ℕ) → at ≤ i → i < next → get_or t i 0 ≡ get_or s i 0

module _ {s t : List ℕ} {a b : ℕ} (m : Same s t a b) (at : ℕ) (h : a ≤ at) where
  -- whatever is made of a field's bytes
  field_same : {A : Type 0} (w : ℕ) (f : List ℕ → Result A Verdict) → at + w ≤ b
      → whole w t at (f (bytes_at w t at)) ≡ whole w s at (f (bytes_at w s at))
  field_same w f i =
      let x = m.within in
      let y = m.fits in
      let l = length_bytes w t at (omega arith) ∙ sym (length_bytes w s at (omega arith)) in
      rw (le-leb (at + w) (length t) (omega arith), le-leb (at + w) (length s) (omega arith))
      (ap f (bytes_same s t at w l λ j k o. m.same j (omega arith) (omega arith)))

  pub u8_same : at + 1 ≤ b → u8_at t at ≡ u8_at s at
  unfolding u8_at
  u8_same = field_same 1 λ x. got_at (number x) (at + 1)

  pub u16_same : at + 2 ≤ b → u16_at t at ≡ u16_at s at
  unfolding u16_at
  u16_same = field_same 2 λ x. got_at (number x) (at + 2)

  pub u32_same : at + 4 ≤ b → u32_at t at ≡ u32_at s at
  unfolding u32_at
  u32_same = field_same 4 λ x. got_at (number x) (at + 4)

  pub tag_same : (fixed : List ℕ) → at + length fixed ≤ b → tag_at fixed t at ≡ tag_at fixed s at
  unfolding tag_at
  tag_same fixed = field_same (length fixed) λ x. pick (equal x fixed) (Ok (to (at + length fixed))) (denied 3 at)

  str_same : (n : ℕ) → at + n ≤ b → str_at n t at ≡ str_at n s at
  unfolding str_at
  str_same n = field_same n λ x. pick (utf8 x) (text_to at n (to (at + n))) (denied 3 at)

pub text_same : {s t : List ℕ} {a b : ℕ} → Same s t a b → (at : ℕ) → a ≤ at → (w p n : ℕ) (c : Cursor) → text_at w s at ≡ text_to p n c → c.at ≤ b
    → text_at w t at ≡ text_to p n c
unfolding text_at
text_same {s} {t} m at h w p n c e i =
    let r = text_next w s at p n c e in
    field_same m at h w (λ x. str_at (number x) t (at + w)) (omega arith)
    ∙ rw (str_same m (at + w) (omega arith) (number (bytes_at w s at)) (omega arith)) e

-- ---- the head of an entry

-- a head of s is read where the same bytes stand up to its value
module _ {s t : List ℕ} {at : ℕ} {e : Entry} {c : Cursor} (m : Same s t at e.place) where
  header_same : header_at s at ≡ got_to e c → header_at t at ≡ got_to e c
  unfolding header_at
  header_same =
      let P : Head → Type 0 = λ x. x ≡ got_to e c → header_at t at ≡ got_to e c in
      on_field P denied not_read (text_at 2 s at) _ λ n q x.
      on_field P denied not_read (u8_at s q.at) _ λ f r y.
      on_field P denied not_read (u32_at s r.at) _ λ l v z g.
      let a = text_next 2 s at n.place n.length q x in
      let b = u8_next s q.at f r y in
      let d = u32_next s r.at l v z in
      let is : entry 0x31 (bit_of f) n.place n.length 0 0 v.at l ≡ e = same_held g in
      let i = ap (λ (e : Entry). e.place) is in
      rw (text_same m at (omega arith) 2 n.place n.length q x (omega arith), u8_same m q.at (omega arith) (omega arith), y, u32_same m r.at (omega arith) (omega arith), z) g

  message_same : message_at s at ≡ got_to e c → message_at t at ≡ got_to e c
  unfolding message_at
  message_same =
      let P : Head → Type 0 = λ x. x ≡ got_to e c → message_at t at ≡ got_to e c in
      on_field P denied not_read (text_at 2 s at) _ λ n q x.
      on_field P denied not_read (text_at 2 s q.at) _ λ o r y.
      on_field P denied not_read (u32_at s r.at) _ λ l v z g.
      let a = text_next 2 s at n.place n.length q x in
      let b = text_next 2 s q.at o.place o.length r y in
      let d = u32_next s r.at l v z in
      let is : entry 0x32 0 n.place n.length o.place o.length v.at l ≡ e = same_held g in
      let i = ap (λ (e : Entry). e.place) is in
      rw (text_same m at (omega arith) 2 n.place n.length q x (omega arith), text_same m q.at (omega arith) 2 o.place o.length r y (omega arith), u32_same m r.at (omega arith) (omega arith), z) g

  pub head_same : (kind : ℕ) → head_at kind s at ≡ got_to e c → head_at kind t at ≡ got_to e c
  head_same kind = go (eqb kind 0x31)
    where
      go : (b : Bool) → pick b (header_at s at) (message_at s at) ≡ got_to e c → pick b (header_at t at) (message_at t at) ≡ got_to e c
      go true = header_same
      go false = message_same
