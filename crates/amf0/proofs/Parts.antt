-- What is read in a part that begins at a place of a whole: what of_whole hands on, and where the fields end or are refused. The functions' tactics are given
-- the latter, so that no place overflows.
use Rattle.std.specs.Prelude.{◌+◌, ◌≤◌, ◌≡◌, Result, Ok, Err}
use Rattle.wire.proofs.Kit.{ℕ, refl, sym, arith, List, length}
use Rattle.wire.specs.Answer.{Verdict, verdict}
use Rattle.wire.specs.declared.cursor.Cursor.{Cursor}
use Rattle.wire.specs.declared.cursor.Span.{Span}
use Rattle.wire.specs.Field.{u8_at, u16_at, u32_at, u64_at, text_at}
use Rattle.wire.proofs.Laws.{same_err, u8_next, u8_stop, u16_next, u16_stop, u32_next, u32_stop, u64_next, u64_stop, text_next, text_stop}
use Rattle.amf0.specs.Part.{of_whole}

module _ {A : Type 0} (b : ℕ) where
  -- what was read of the whole was read so in the part
  pub part_ok : {y : A} (x : Result A Verdict) → Ok y ≡ of_whole b x → x ≡ Ok y
  part_ok (Ok z) e = sym e
  part_ok (Err r) e = let z : ◌≡◌ {A = ℕ} 0 1 = cc in absurd (omega arith)

  -- what is refused of the whole was refused in the part, its place counted from there
  pub part_err : {v : Verdict} (x : Result A Verdict) → Err v ≡ of_whole b x → (r : Verdict) × (x ≡ Err r) × (v ≡ verdict r.answer (b + r.place))
  part_err (Ok z) e = let z : ◌≡◌ {A = ℕ} 0 1 = cc in absurd (omega arith)
  part_err (Err r) e = (r, refl, same_err e)

module _ (s : List ℕ) (at : ℕ) where
  -- a field is refused within the bytes
  pub within8 : (r : Verdict) → u8_at s at ≡ Err r → at ≤ length s → r.place ≤ length s
  within8 r e g = let h = u8_stop s at r.answer r.place e in omega arith

  pub within16 : (r : Verdict) → u16_at s at ≡ Err r → at ≤ length s → r.place ≤ length s
  within16 r e g = let h = u16_stop s at r.answer r.place e in omega arith

  pub within32 : (r : Verdict) → u32_at s at ≡ Err r → at ≤ length s → r.place ≤ length s
  within32 r e g = let h = u32_stop s at r.answer r.place e in omega arith

  pub within64 : (r : Verdict) → u64_at s at ≡ Err r → at ≤ length s → r.place ≤ length s
  within64 r e g = let h = u64_stop s at r.answer r.place e in omega arith

  pub within_text : (w : ℕ) (r : Verdict) → text_at w s at ≡ Err r → at ≤ length s → r.place ≤ length s
  within_text w r e g = (text_stop w s at r.answer r.place e g).within

  -- a field that was read ends behind its bytes, within them all
  pub ends8 : (x : ℕ × Cursor) → u8_at s at ≡ Ok x → (x.1.at ≡ at + 1) × (at + 1 ≤ length s)
  ends8 x e = let r = u8_next s at x.0 x.1 e in (r.next, r.within)

  pub ends16 : (x : ℕ × Cursor) → u16_at s at ≡ Ok x → (x.1.at ≡ at + 2) × (at + 2 ≤ length s)
  ends16 x e = let r = u16_next s at x.0 x.1 e in (r.next, r.within)

  pub ends32 : (x : ℕ × Cursor) → u32_at s at ≡ Ok x → (x.1.at ≡ at + 4) × (at + 4 ≤ length s)
  ends32 x e = let r = u32_next s at x.0 x.1 e in (r.next, r.within)

  pub ends64 : (x : ℕ × Cursor) → u64_at s at ≡ Ok x → (x.1.at ≡ at + 8) × (at + 8 ≤ length s)
  ends64 x e = let r = u64_next s at x.0 x.1 e in (r.next, r.within)

  pub ends_text : (w : ℕ) (x : Span × Cursor) → text_at w s at ≡ Ok x → (at + w ≤ x.1.at) × (x.1.at ≤ length s) × (x.0.place ≡ at + w)
  ends_text w x e = let r = text_next w s at x.0.place x.0.length x.1 e in (omega arith, omega arith, r.place)
