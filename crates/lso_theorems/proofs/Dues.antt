-- What stands where a record of a file's reading is due.
use Rattle.std.specs.Prelude.{◌+◌, ◌∷◌, Ok, Err, Result}
use Rattle.wire.proofs.Kit.{ℕ, refl, List, [], length}
use Rattle.wire.specs.Number.{Bytes}
use Rattle.wire.specs.Limit as limit
use Rattle.wire.specs.Field.{tag_at, past_tag}
use Rattle.wire.proofs.Stands.{end_text}
use Rattle.image.specs.declared.record.Record.{Record}
use Rattle.image.specs.Due.{end, stop, Lacks}
use Rattle.image.proofs.Settle.{AllDue, due_bind, due_lacks, due_map}
use Rattle.amf0.specs.Reading.{top_value}
use Rattle.amf0.specs.Standard.UTF-8.{short}
use Rattle.amf0_theorems.specs.Due as value
use Rattle.amf0_theorems.proofs.Dues.{key_due, value_due}
use Rattle.lso.specs.Reading.{closing, element_at, ever_due}
use Rattle.lso.proofs.Body.{ever_due_lem}
use Rattle.lso_theorems.specs.Due.{DueAt}
use Rattle.lso_theorems.specs.Refusal.{Heads}
use Rattle.lso_theorems.proofs.Stopping.{heads_end}
use Rattle.wire.specs.Answer.{Verdict}
use Rattle.wire.specs.declared.cursor.Cursor.{Cursor}

-- behind its value an element has no record
closing_due : (P : Record → ℕ → Type 0) (s : List ℕ) (at : ℕ) → AllDue P (closing s at)
closing_due P s at = go (tag_at (0 ∷ []) s at)
  where
    go : (t : Result Cursor Verdict) → AllDue P (past_tag stop t end)
    go (Ok c) = tt
    go (Err r) = tt

element_due : (s : List ℕ) → Bytes s → (at : ℕ) → AllDue (value.DueAt s) (element_at s at)
unfolding element_at
element_due s bs at =
    end_text (AllDue (value.DueAt s)) stop (λ a p. tt) s bs at 2 _ λ k r h b u.
    let q : ℕ = at + 2 + length k in
    (key_due k r h (short k b u), due_bind (value.DueAt s) (top_value s q) (closing s) (value_due s bs limit.levels q) λ n e. closing_due (value.DueAt s) s n)

-- A refusal of a file for room is at the place of what the first record that has none says.
pub room_due : (s : List ℕ) (room p q : ℕ) → Bytes s → Heads s p → Lacks (ever_due s p) 0 room q → (r : Record) × DueAt s r q
room_due s room p q bs h =
    due_lacks (DueAt s) (ever_due s p) 0 room q
    (ever_due_lem (DueAt s) s (λ at l. due_map (element_at s at) (λ r n. DueAt.inside) (element_due s bs at)) (λ stored o n. DueAt.file refl refl) p (heads_end h))
