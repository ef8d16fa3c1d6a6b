-- Demand 1: when the reading of an entry is refused because the packet is not cut exactly.
use Rattle.std.specs.Prelude.{◌≡◌, ◌↔◌, ◌∷◌, Ok}
use Rattle.wire.proofs.Kit.{ℕ, refl, sym, ap, ap₂, ◌∙◌, inl, inr, ⊎_elim, List, [], arith, length, get_or, ltb, ltb-false}
use Rattle.wire.specs.Number.{Bytes}
use Rattle.wire.proofs.Laws.{picked}
use Rattle.image.specs.Whole.{Whole, refused}
use Rattle.packet.specs.declared.head.Entry.{Entry}
use Rattle.packet.specs.Entry.{Cut, found, stops, cut_of, no_entry, found_in, entry_in, read_span, read_entry}
use Rattle.packet.proofs.Laws.{cut_told, entry_chosen}
use Rattle.packet_theorems.specs.Refusal.{RefusedCut}
use Rattle.packet_theorems.proofs.Theorems.{entry_span, entry_over_limit}
use Rattle.packet_theorems.proofs.SpanTheorems.{span_answers}
use Rattle.packet_theorems.proofs.Refusals.{cut_refused_exactly}
use Rattle.packet_theorems.proofs.Demand3 as packets
use Rattle.demands.specs.Forms.{OneOf}
use Rattle.wire.specs.Answer.{denied}
use Rattle.packet.specs.Entry.{Found}

-- the answers that come where a packet is cut
abbrev pub AfterCut : ℕ → Type 0
AfterCut = OneOf 0 (4 ∷ 5 ∷ 8 ∷ 9 ∷ [])

module _ (s : List ℕ) (k room : ℕ) where
  -- an entry that is found answers so
  found_answers : (e : Entry) → found_in (cut_of s) k ≡ Ok e → AfterCut (read_entry s k room).reading.answer
  found_answers e f =
      rw (ap (λ (w : Whole). w.reading.answer) (entry_span s k room e f)) at
      (⊎_elim inl (⊎_elim (λ z. absurd (over z)) inr) (span_answers s e.place e.length room))
    where
      over : (read_span s e.place e.length room).reading.answer ≡ 1 → ⊥
      over z =
          let h = entry_chosen s k 0 (cut_of s) {e = e} (cut_told s) (sym f) in
          let g = (entry_over_limit s k room).0 (sym (ap (λ (w : Whole). w.reading.answer) (entry_span s k room e f)) ∙ z) in
          omega (arith, h.short)

  -- and so does a number past the last
  cut_answers : (es : List Entry) (n : ℕ) → Bytes s → cut_of s ≡ found es n → AfterCut (read_entry s k room).reading.answer
  cut_answers es n bs c =
      picked {A = Found} (λ f. found_in (cut_of s) k ≡ f → AfterCut (read_entry s k room).reading.answer) (ltb k (length es))
      (Ok (get_or es k no_entry)) (denied 8 0) (λ h f. found_answers (get_or es k no_entry) f)
      (λ h f. rw (packets.past s s es n bs c (record { long = refl; same = λ i b. refl }) k room (ltb-false k (length es) h)) (inr (inr (inr (inl refl)))))
      (ap (λ x. found_in x k) c)

-- A packet that the cut refuses at a place refuses every entry so.
pub entry_not_cut : (s : List ℕ) (k room a p : ℕ) → Bytes s → RefusedCut s a p → read_entry s k room ≡ refused a p
unfolding read_entry
entry_not_cut s k room a p bs t = rw ((cut_refused_exactly s a p bs).1 t)

-- An answer that does not come where a packet is cut is given at a place just where a field there refuses the packet.
pub entry_uncut : (s : List ℕ) (k room a p : ℕ) → Bytes s → (AfterCut a → ⊥) → read_entry s k room ≡ refused a p ↔ RefusedCut s a p
unfolding read_entry
entry_uncut s k room a p bs other = go (cut_of s) refl
  where
    go : (x : Cut) → cut_of s ≡ x → entry_in s (cut_of s) k room ≡ refused a p ↔ RefusedCut s a p
    go (stops b q) e = rw e (
      λ z. (cut_refused_exactly s a p bs).0 (e ∙ ap₂ stops (ap (λ (w : Whole). w.reading.answer) z) (ap (λ (w : Whole). w.reading.used) z)),
      λ t. ap (λ x. entry_in s x k room) (sym e ∙ (cut_refused_exactly s a p bs).1 t),
    )
    go (found es n) e = (
      λ z. absurd (other (rw (ap (λ (w : Whole). w.reading.answer) z) at (cut_answers s k room es n bs e))),
      λ t. let f = (cut_refused_exactly s a p bs).1 t in let z : ◌≡◌ {A = ℕ} 0 1 = cc in absurd (omega arith),
    )
