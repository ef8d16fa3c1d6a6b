-- What stands where something else is due refuses the writing of a file, at its place.
use Rattle.std.specs.Prelude.{◌+◌, ◌<◌, ◌≡◌, ◌∷◌, ◌++◌}
use Rattle.wire.proofs.Kit.{ℕ, zero, suc, refl, ap, List, arith, length, drop, length-drop}
use Rattle.wire.specs.Number.{Bytes}
use Rattle.wire.proofs.Laws.{pick_no}
use Rattle.wire.proofs.Stands.{Here, skip, inside}
use Rattle.image.specs.declared.record.Record.{Record}
use Rattle.image.specs.declared.record.Record.TheVariants as R
use Rattle.image.specs.Record.{◌bytes◌, none, size}
use Rattle.image.specs.Out.{Out, end, ◌>>=◌, row, bytes as put_out_lem}
use Rattle.image.proofs.Laws.{size_some}
use Rattle.amf0.specs.Shown.{laid, Right}
use Rattle.amf0.specs.Writing.{top_value}
use Rattle.amf0_theorems.specs.Unwritten.{Stops}
use Rattle.amf0_theorems.proofs.Puts.{first, others, laid_append, laid_length, laid_size, right_right, empty, named}
use Rattle.amf0_theorems.proofs.Seen.{took_fronts}
use Rattle.amf0_theorems.proofs.WriteRefusing.{stops_first, stops_then, value_stops}
use Rattle.lso.specs.Writing.{element, body, file}
use Rattle.lso_theorems.specs.Unwritten.{Slot, Elements, Opens, NoFile, NoKey, Refuses, Refused}
use Rattle.lso_theorems.proofs.Puts.{element_puts}
use Rattle.lso_theorems.proofs.Seen.{SeenKey, see_key, SeenFile, see_file}

module _ (s image : List ℕ) (bs : Bytes image) where
  -- ---- at the place

  -- a key is due, or the file's own record
  key_slot : (at : ℕ) → NoKey s (drop at image) → Stops (element image s at) 6 at
  unfolding element
  key_slot at none = by (see_key s image bs at _)
    where
      by : {d : Out} {k : ℕ → Out} → SeenKey s image bs at k d → Stops d 6 at
      by (SeenKey.seen {p} {n} t h) = absurd (none.none p n (took_fronts s image bs at t (h, tt)))
      by (SeenKey.unseen n) = (refl, refl)

  file_slot : (says : ℕ → ℕ → ℕ) → NoFile s image → Stops (file says image s) 6 0
  unfolding file
  file_slot says none = by (see_file s image bs (λ n q. says n (length (put_out_lem (body image s (length image) q)))) (body image s (length image)))
    where
      by : {d : Out} {k : ℕ → Out} → SeenFile s image bs k d → Stops d 6 0
      by (SeenFile.seen {stored} {p} {n} t h) = absurd (none.none stored p n (took_fronts s image bs 0 t (h, tt)))
      by (SeenFile.unseen n) = (refl, refl)
      by (SeenFile.unnamed n) = (refl, refl)

  -- ---- before the place

  -- one element more is looked at
  goes_on_lem : (at fuel a p : ℕ) → at < length image → Stops (element image s at >>= body image s fuel) a p → Stops (body image s (suc fuel) at) a p
  unfolding body
  goes_on_lem at fuel a p l e = rw (pick_no (length image) at (end at) (element image s at >>= body image s fuel) l) e

  -- in the value behind a key
  key_stops : {at : ℕ} (u n : ℕ) (rs : List Record) (z : List ℕ) → Here image at (laid (R.Key u n ∷ rs)) z → Right s (R.Key u n ∷ rs) → (a p : ℕ)
      → Stops (top_value image s (at + size (R.Key u n))) a p → Stops (element image s at) a p
  unfolding element row
  key_stops {at} u n rs z h g a p e =
      rw (first s image (R.Key u n) rs z h g.0, named s none (2 bytes n) none g.1.0) (stops_first (top_value image s (at + size (R.Key u n))) _ a p e)

  -- elements that are begun are refused where their records end
  body_stops : {rs : List Record} {d : Slot} {z : List ℕ} {a : ℕ} → Elements s rs d → Right s rs → Refuses s d z a → (at p fuel : ℕ) → Here image at (laid rs) z
      → p ≡ at + length (laid rs) → length (laid rs) < fuel → Stops (body image s fuel at) a p
  body_stops e g r at p zero h m f = absurd (omega arith)
  body_stops Elements.due g (Refuses.element n) at p (suc fuel) h m f =
      let e : p ≡ at = omega arith in
      goes_on_lem at fuel 6 p (omega (arith, ap length h.same, length-drop at image))
      (stops_first (element image s at) (body image s fuel) 6 p (rw e (key_slot at (rw h.same n))))
  body_stops {z} {a} (Elements.key {p = u} {n} {rs} b) g (Refuses.inside r) at p (suc fuel) h m f =
      let c : Record = R.Key u n in
      let o = laid_size c rs in
      let i = size_some c in
      goes_on_lem at fuel a p (omega (arith, inside h (omega arith)))
      (stops_first (element image s at) (body image s fuel) a p
      (key_stops u n rs z h g a p (value_stops s image bs b g.2 r (at + size c) p (others s image c rs z h) (omega arith))))
  body_stops {z} {a} (Elements.element {p = u} {n} {rs} {qs} t k b) g r at p (suc fuel) h m f =
      let c : Record = R.Key u n in
      let o = laid_size c (rs ++ qs) in
      let l = laid_length rs qs in
      let i = size_some c in
      let j : Here image (at + size c) (laid rs ++ laid qs) z = rw (laid_append rs qs) at (others s image c (rs ++ qs) z h) in
      goes_on_lem at fuel a p (omega (arith, inside h (omega arith)))
      (stops_then (element_puts s image qs at refl t g h λ o. omega arith) (body image s fuel) a p
      (body_stops b (right_right s rs qs g.2) r (at + size c + length (laid rs)) p fuel (skip (laid rs) (laid qs) j) (omega arith) (omega arith)))

  -- ---- from the start of the image

  opened : {rs : List Record} {d : Slot} {z : List ℕ} {a : ℕ} (says : ℕ → ℕ → ℕ) (p : ℕ) → Opens s rs d → Right s rs → Refuses s d z a → Here image 0 (laid rs) z
      → p ≡ length (laid rs) → Stops (file says image s) a p
  unfolding file row
  opened says p Opens.file g (Refuses.file n) h m = rw m (file_slot says (rw h.same n))
  opened {z} {a} says p (Opens.behind {stored} {p = u} {n} {rs} w b) g r h m =
      let c : Record = R.Lso stored u n in
      let o = laid_size c rs in
      let i = size_some c in
      rw (first s image c rs z h g.0, named s (2 bytes 0) none none (empty s), named s none none none w)
      (body_stops b g.2 r (0 + size c) p (length image) (others s image c rs z h) (omega arith) (omega (arith, inside h (omega arith))))

  -- an image that is refused
  pub refuses_by : (says : ℕ → ℕ → ℕ) (a p : ℕ) → Refused image s a p → Stops (file says image s) a p
  refuses_by says a p x = opened says p x.opens x.right x.refuses (record { same = x.lies }) x.stands
