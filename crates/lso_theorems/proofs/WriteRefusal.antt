-- A writing of a file that is refused is so by what stands at its place: the records before it begin a file, and what is due behind them is not there.
use Rattle.std.specs.Prelude.{◌+◌, ◌≤◌, ◌≡◌, ◌∷◌}
use Rattle.wire.proofs.Kit.{ℕ, zero, suc, refl, List, [], arith, length, drop, length-drop, leb, leb-false}
use Rattle.wire.specs.Number.{Bytes}
use Rattle.wire.specs.Limit as limit
use Rattle.wire.proofs.Laws.{picked}
use Rattle.image.specs.Record.{◌bytes◌, none}
use Rattle.image.specs.Out.{Out, end, ◌>>=◌, row, bytes as put_out_lem}
use Rattle.amf0.specs.Writing.{top_value}
use Rattle.amf0_theorems.proofs.Puts.{empty, named}
use Rattle.amf0_theorems.specs.Unwritten.{Stops}
use Rattle.amf0_theorems.proofs.WriteRefusal.{bind_stops, Reached, no_record, past_record, past_records, past_tree, value_halt}
use Rattle.lso.specs.Writing.{zero_byte, element, body, file}
use Rattle.lso_theorems.specs.Unwritten.{Slot, Elements, Opens, NoFile, NoKey, Refuses, Refused}
use Rattle.lso_theorems.proofs.WriteSound.{element_sound}
use Rattle.lso_theorems.proofs.Seen.{SeenKey, see_key, SeenFile, see_file}

module _ (s image : List ℕ) (bs : Bytes image) where
  -- the records from `at` to p begin elements, and what stands at p, where something is due, refuses the image with a
  record Halted (at a p : ℕ) : Type 0 where
    reached : Reached s image bs at p
    slot : Slot
    begins : Elements s reached.records slot
    refuses : Refuses s slot reached.rest a

  halted : {at a p : ℕ} {d : Slot} (x : Reached s image bs at p) → Elements s x.records d → Refuses s d x.rest a → Halted at a p
  halted {d} x b r = record { reached = x; slot = d; begins = b; refuses = r }

  -- the zero behind an element is not refused
  zeroed_goes : (at n a p : ℕ) → Stops (row s zero_byte at (end n)) a p → ⊥
  unfolding row
  zeroed_goes at n a p e = rw (named s (1 bytes 0) none none (empty s)) at e

  -- bytes that stand where a key is due
  no_key : (x : List ℕ) → 1 ≤ length x → NoKey s x → Refuses s Slot.element x 6
  no_key [] l n = absurd (omega arith)
  no_key (b ∷ x) l n = Refuses.element n

  -- an element, and then all of them
  element_halt : (at a p : ℕ) → at + 1 ≤ length image → Stops (element image s at) a p → Halted at a p
  unfolding element no_record past_record
  element_halt at a p l e = by (see_key s image bs at (λ q. top_value image s q >>= λ n. row s zero_byte at (end n))) e
    where
      by : {d : Out} → SeenKey s image bs at (λ q. top_value image s q >>= λ n. row s zero_byte at (end n)) d
          → Stops d a p → Halted at a p
      by (SeenKey.seen {q} t h) e =
          bind_stops (top_value image s q) _ a p e
          (λ f. let x = value_halt s image bs limit.levels q a p f in halted (past_record s image bs t (h, tt) x.reached) (Elements.key x.begins) (Refuses.inside x.refuses))
          (λ n f g. absurd (zeroed_goes at n a p g))
      by (SeenKey.unseen n) e =
          halted (no_record s image bs e.1) Elements.due (rw e.0 (no_key (drop at image) (omega (arith, length-drop at image)) n))

  body_halt : (fuel at a p : ℕ) → Stops (body image s fuel at) a p → Halted at a p
  unfolding body past_record past_records past_tree
  body_halt zero at a p = λ e. absurd e
  body_halt (suc fuel) at a p =
      picked (λ (x : Out). Stops x a p → Halted at a p) (leb (length image) at) (end at) (element image s at >>= body image s fuel)
      (λ h e. absurd e)
      (λ h e.
      bind_stops (element image s at) (body image s fuel) a p e
      (element_halt at a p (omega (arith, leb-false (length image) at h)))
      (λ m f g. element_sound s image bs at m f λ u n q t k y.
      let x = body_halt fuel m a p g in
      halted (past_record s image bs t (k, tt) (past_tree s image bs y x.reached)) (Elements.element y.spells y.deep x.begins) x.refuses))

  -- an image that is refused
  pub refused_by : (says : ℕ → ℕ → ℕ) (a p : ℕ) → Stops (file says image s) a p → Refused image s a p
  unfolding file past_record
  refused_by says a p e = by (see_file s image bs (λ n q. says n (length (put_out_lem (body image s (length image) q)))) (body image s (length image))) e
    where
      none : NoFile s image → a ≡ 6 → p ≡ 0 → Refused image s a p
      none n e f =
          record { records = []; rest = image; slot = Slot.file; lies = refl; stands = f; right = tt; opens = Opens.file; refuses = rw e (Refuses.file n) }

      by : {d : Out} → SeenFile s image bs (body image s (length image)) d → Stops d a p → Refused image s a p
      by (SeenFile.seen {q} t h) e =
          let x = body_halt (length image) q a p e in
          let y = past_record s image bs t (h, tt) x.reached in
          record {
            records = y.records;
            rest = y.rest;
            slot = x.slot;
            lies = y.here.same;
            stands = omega (arith, y.place);
            right = y.right;
            opens = Opens.behind h x.begins;
            refuses = x.refuses;
          }
      by (SeenFile.unseen n) e = none n e.0 e.1
      by (SeenFile.unnamed n) e = none n e.0 e.1
