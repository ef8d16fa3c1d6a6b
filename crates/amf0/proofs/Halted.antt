-- Where a field of a part is refused, what is left of the reading is a refusal with that answer, at its place in the whole.
use Rattle.std.specs.Prelude.{◌+◌, ◌≤◌, ◌≡◌, Err}
use Rattle.wire.proofs.Kit.{ℕ, refl, sym, ◌∙◌, List, length}
use Rattle.wire.specs.Answer.{Verdict}
use Rattle.wire.specs.declared.cursor.Span.{Span}
use Rattle.wire.specs.Field.{Parsed, u8_at, text_at}
use Rattle.image.specs.Due.{Due, stop, based}
use Rattle.amf0.specs.Part.{of_whole}
use Rattle.amf0.specs.Reading.{value, pair, pairs}
use Rattle.amf0.proofs.Laws.{value_cut, pairs_cut, pair_cut}
use Rattle.amf0.proofs.Parts.{part_err}

module _ (b : ℕ) (s : List ℕ) (at : ℕ) {v : Verdict} where
  module _ {x : Parsed ℕ} (e : Err v ≡ of_whole b x) (f : x ≡ u8_at s at) where
    pub value_halted : (left : ℕ) → based b (value left s at) ≡ stop v.answer v.place
    value_halted left =
        let p = part_err b x e in
        rw (p.2, value_cut s at left (sym f ∙ p.1)) refl

    pub pair_halted : (inner more : ℕ → Due) (from p n : ℕ) → based b (pair inner more s from p n at) ≡ stop v.answer v.place
    pair_halted inner more from p n =
        let q = part_err b x e in
        rw (q.2, pair_cut s from inner more p n at (sym f ∙ q.1)) refl

  pub pairs_halted : {x : Parsed Span} → Err v ≡ of_whole b x → x ≡ text_at 2 s at → (inner : ℕ → Due) (fuel : ℕ) → length s ≤ fuel + at
      → based b (pairs inner s fuel at) ≡ stop v.answer v.place
  pairs_halted {x} e f inner fuel h =
      let p = part_err b x e in
      rw (p.2, pairs_cut s at inner fuel h (sym f ∙ p.1)) refl
