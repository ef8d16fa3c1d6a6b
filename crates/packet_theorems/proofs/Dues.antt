-- What stands where a record of a packet's reading is due.
use Rattle.wire.proofs.Kit.{ℕ, zero, suc, refl, List, eqb}
use Rattle.wire.specs.Number.{Bytes}
use Rattle.wire.specs.Limit as limit
use Rattle.wire.specs.Field.{u16_at, got, past_tag}
use Rattle.wire.proofs.Laws.{picked}
use Rattle.wire.proofs.Stands.{end8, end16, end32, end_text}
use Rattle.image.specs.declared.record.Record.{Record}
use Rattle.image.specs.Due.{stop, due, ◌>>=◌, Lacks}
use Rattle.image.specs.Kind as kind
use Rattle.image.proofs.Settle.{AllDue, due_bind, due_lacks, due_map}
use Rattle.amf0.specs.Reading.{top_value}
use Rattle.amf0.specs.Standard.UTF-8.{short}
use Rattle.amf0_theorems.proofs.Dues.{value_due}
use Rattle.packet.specs.Head.{version_at, header_at, message_at, head_at, Head}
use Rattle.packet.specs.Reading.{record_of, entries_at, body_at, packet_at}
use Rattle.packet_theorems.specs.Due.{DueAt}
use Rattle.wire.specs.Answer.{denied, Verdict}
use Rattle.std.specs.Prelude.{Ok, Err, Result}
use Rattle.wire.specs.declared.cursor.Cursor.{Cursor}

module _ (s : List ℕ) (bs : Bytes s) where
  -- the head of an entry, and then what has no other records than its own
  abbrev Headed : ℕ → Head → Type 0
  Headed at (Ok x) = DueAt s (record_of x.0) at
  Headed at (Err r) = Unit {0}

  header_due : (at : ℕ) → Headed at (header_at s at)
  unfolding header_at
  header_due at =
      end_text (Headed at) denied (λ a p. tt) s bs at 2 _ λ k r h b u.
      end8 (Headed at) denied (λ a p. tt) s bs _ _ λ f g. end32 (Headed at) denied (λ a p. tt) s bs _ _ λ l i. DueAt.header r (short k b u) h.same refl

  message_due : (at : ℕ) → Headed at (message_at s at)
  unfolding message_at
  message_due at =
      end_text (Headed at) denied (λ a p. tt) s bs at 2 _ λ k r h b u.
      end_text (Headed at) denied (λ a p. tt) s bs _ 2 _ λ j q g c v. end32 (Headed at) denied (λ a p. tt) s bs _ _ λ l i.
      DueAt.message r (short k b u) h.same refl

  value_in_lem : (at : ℕ) → AllDue (DueAt s) (top_value s at)
  value_in_lem at = due_map (top_value s at) (λ r p. DueAt.inside) (value_due s bs limit.levels at)

  entries_due : (k n at : ℕ) → AllDue (DueAt s) (entries_at k s n at)
  unfolding entries_at
  entries_due k zero at = tt
  entries_due k (suc n) at = go (head_at k s at) (picked (Headed at) (eqb k kind.header) _ _ (λ t. header_due at) (λ t. message_due at)) (entries_due k n)
    where
      go : (x : Head) → Headed at x → ((q : ℕ) → AllDue (DueAt s) (entries_at k s n q))
          → AllDue (DueAt s) (got stop x λ e v. due (record_of e) at (top_value s v >>= entries_at k s n))
      go (Ok x) h f = (h, due_bind (DueAt s) (top_value s x.1.at) (entries_at k s n) (value_in_lem x.1.at) λ m e. f m)
      go (Err r) h f = tt

  body_due : (h q : ℕ) → AllDue (DueAt s) (body_at s h q)
  body_due h q = (
    DueAt.packet refl refl,
    due_bind (DueAt s) (entries_at kind.header s h q) _ (entries_due kind.header h q) λ n e.
        end16 (AllDue (DueAt s)) stop (λ a p. tt) s bs n _ λ m g. entries_due kind.message m _,
  )

  packet_due : AllDue (DueAt s) (packet_at s)
  unfolding packet_at
  packet_due = go (version_at s)
    where
      go : (t : Result Cursor Verdict) → AllDue (DueAt s) (past_tag stop t λ p. got stop (u16_at s p) (body_at s))
      go (Ok c) = end16 (AllDue (DueAt s)) stop (λ a p. tt) s bs c.at _ λ h g. body_due h _
      go (Err r) = tt

-- A refusal of a packet for room is at the place of what the first record that has none says.
pub room_due : (s : List ℕ) (room p : ℕ) → Bytes s → Lacks (packet_at s) 0 room p → (r : Record) × DueAt s r p
room_due s room p bs = due_lacks (DueAt s) (packet_at s) 0 room p (packet_due s bs)
