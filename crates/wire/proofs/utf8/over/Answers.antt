-- `over` meets its contract: it goes on behind a byte of the range, and stops at any other and at the end.
use Rattle.std.specs.Prelude.{◌<◌, ◌≡◌}
use Rattle.std.proofs.lemmas.Option.{slice_get_read, get_or_from_slice_get}
use Rattle.wire.proofs.Kit.{ℕ, List, refl, sym, inl, inr, ⊎_elim, ltb-true, ltb-false, length, get_or}
use Rattle.wire.proofs.Steps.{over_in, over_out, over_end}
use Rattle.wire.proofs.utf8.over.Goals as goal

-- what `get` gives is the byte, whatever else stands for one that is not there
given : (s : List ℕ) (i b : ℕ) → i < length s → b ≡ get_or s i b → get_or s i 0 ≡ b
given s i b h e = get_or_from_slice_get s i b 0 (slice_get_read s (length s) i b refl h e)

pub returns-in_err-b : goal.returns-in_err-b
returns-in_err-b c = rw c.from_residual.ensures (over_end _ _ _ _ (ltb-false _ _ (sym c.in_err-b.ensures.lookup.0)))

pub returns-then-b-high : goal.returns-then-b-high
returns-then-b-high c =
    let h = ltb-true _ _ (sym c.in_ok-b.ensures.lookup.0) in
    let e = given _ _ _ h c.in_ok-b.ensures.lookup.1 in
    over_in _ _ h _ _ (rw e c.if-low-b.true) (rw e c.if-b-high.true)

pub returns-else-low-b : goal.returns-else-low-b
returns-else-low-b c =
    let h = ltb-true _ _ (sym c.in_ok-b.ensures.lookup.0) in
    let e = given _ _ _ h c.in_ok-b.ensures.lookup.1 in
    over_out _ _ h _ _ (rw e (⊎_elim (λ w. inl w.1) (λ w. inr w) c.else-low-b.either))
