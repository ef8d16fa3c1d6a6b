-- What stands where a record of a value's reading is due.
use Rattle.std.specs.Prelude.{◌+◌, ◌++◌, Ok, Err}
use Rattle.wire.proofs.Kit.{ℕ, zero, suc, refl, ap, List, length, eqb, eqb-true}
use Rattle.wire.specs.Number.{digits, Bytes}
use Rattle.wire.proofs.Laws.{picked}
use Rattle.wire.proofs.Stands.{Here, skip, there, end8, end_text}
use Rattle.image.specs.declared.record.Record.{Record}
use Rattle.image.specs.declared.record.Record.TheVariants.{Key}
use Rattle.image.specs.Due.{Due, Fact, stop, seen, due, Lacks}
use Rattle.image.proofs.Settle.{AllDue, due_bind, due_lacks}
use Rattle.amf0.specs.declared.read.Follow.{Follow}
use Rattle.amf0.specs.declared.read.Follow.TheVariants.{Nothing, Pairs, Values}
use Rattle.amf0.specs.Fields.{got_fields, Fields}
use Rattle.amf0.specs.Reading.{items, pair, pairs, follow, own_at, value, top_value}
use Rattle.amf0.specs.Shown.Word.{name}
use Rattle.amf0.specs.Standard.{UTF-8}
use Rattle.amf0.specs.Standard.UTF-8.{short}
use Rattle.amf0.proofs.Rows.{item_at, IsRead, item_ends}
use Rattle.amf0_theorems.specs.Due.{DueAt}
use Rattle.amf0_theorems.proofs.Complete.{value_item}
use Rattle.amf0_theorems.proofs.Marked.{marked}

-- a name that stands at a place is what the record of a key there says
pub key_due : {s : List ℕ} {at : ℕ} (k r : List ℕ) → Here s at (digits 2 (length k) ++ k) r → UTF-8 k (digits 2 (length k) ++ k)
    → DueAt s (Key (at + 2) (length k)) at
key_due k r h key = DueAt.key r key h.same (ap name (there (length k) (skip (digits 2 (length k)) k h) refl))

module _ (s : List ℕ) (bs : Bytes s) where
  module _ (inner : ℕ → Due) (good : (at : ℕ) → AllDue (DueAt s) (inner at)) where
    items_due : (c at : ℕ) → AllDue (DueAt s) (items inner c at)
    unfolding items
    items_due zero at = tt
    items_due (suc c) at = due_bind (DueAt s) (inner at) (items inner c) (good at) λ n e. items_due c n

    pair_due : (k r : List ℕ) (at : ℕ) (more : ℕ → Due) → ((q : ℕ) → AllDue (DueAt s) (more q)) → Here s at (digits 2 (length k) ++ k) r
        → UTF-8 k (digits 2 (length k) ++ k) → AllDue (DueAt s) (pair inner more s at (at + 2) (length k) (at + 2 + length k))
    unfolding pair
    pair_due k r at more ih h key =
        let q : ℕ = at + 2 + length k in
        end8 (AllDue (DueAt s)) stop (λ a p. tt) s bs q _ λ m g.
        picked (AllDue (DueAt s)) (eqb m 9) _ _ (λ t. (DueAt.end _ (rw (eqb-true m 9 t) at g.same) refl, tt))
        (λ t. (key_due k r h key, due_bind (DueAt s) (inner q) more (good q) λ n e. ih n))

    pairs_due : (fuel at : ℕ) → AllDue (DueAt s) (pairs inner s fuel at)
    unfolding pairs
    pairs_due zero at = tt
    pairs_due (suc fuel) at =
        end_text (AllDue (DueAt s)) stop (λ a p. tt) s bs at 2 _ λ k r h b u. pair_due k r at (pairs inner s fuel) (pairs_due fuel) h (short k b u)

    follow_due : (f : Follow) (at : ℕ) → AllDue (DueAt s) (follow inner s f at)
    unfolding follow
    follow_due Nothing at = tt
    follow_due Pairs at = pairs_due (length s) at
    follow_due (Values n) at = items_due n at

    node_due : (look : ℕ → Fact) (at : ℕ) (x : Fields) → IsRead s at x
        → AllDue (DueAt s) (got_fields stop x λ r f q. seen (look q) (due r at (follow inner s f q)))
    node_due look at (Ok x) g =
        (DueAt.value g.rest g.grammar g.here.same (rw g.marks ((marked g.grammar).tells s g.rest at g.here)), follow_due x.1 x.2.at)
    node_due look at (Err r) g = tt

-- Every record of a value's reading is due where the value, the name or the end marker stands that it says.
pub value_due : (s : List ℕ) → Bytes s → (left at : ℕ) → AllDue (DueAt s) (value left s at)
unfolding value
value_due s bs zero at = end8 (AllDue (DueAt s)) stop (λ a p. tt) s bs at _ λ m h. tt
value_due s bs (suc left) at = rw (value_item left s at) (node_due s bs (value left s) (value_due s bs left) (own_at left s at) at (item_at s at) (item_ends s bs at))

-- So a refusal for room is at the place of what the first record that has none says.
pub room_due : (s : List ℕ) (room p : ℕ) → Bytes s → Lacks (top_value s 0) 0 room p → (r : Record) × DueAt s r p
room_due s room p bs = due_lacks (DueAt s) (top_value s 0) 0 room p (value_due s bs _ 0)
