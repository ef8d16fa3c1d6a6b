-- The walk ends at the image's end or before it, or is refused.
use Rattle.index.proofs.Making.{root_fits}
use Rattle.index.specs.Index.{keys_of}
use Rattle.image.proofs.Pouring.{pour_then, pour_halt, pour_stop, pour_end}
use Rattle.std.proofs.lemmas.Result.{err_from_is_err_and}
use Rattle.wire.proofs.Kit.{le-leb, lt-leb, length, arith, sym, ◌∙◌}
use Rattle.index.proofs.make.gather.Goals as goal

pub returns-in_default : goal.returns-in_default
unfolding keys_of
returns-in_default c = rw (c.refuse.ensures, sym c.root.ensures ∙ c.in_default.is) (sym (pour_stop _ _ _ _))

pub follow-requires : goal.follow-requires
follow-requires c =
    let a = c.args in
    let p = c.requires in
    (p, root_fits a.image.now a.text.now (λ n. (c.type_inv.image n).fits) _ _ (sym c.root.ensures ∙ c.in-Some.is), omega arith, omega arith, omega arith)

pub returns-in_err-e : goal.returns-in_err-e
unfolding keys_of
returns-in_err-e c =
    let p = err_from_is_err_and c.from_residual.result c.from_residual.ensures.1 in
    rw (p.1, p.2, sym c.root.ensures ∙ c.in-Some.is) (sym (pour_halt _ _ _ _ c.in_err-e.ensures.index_after))

pub returns-then-image-e : goal.returns-then-image-e
unfolding keys_of
returns-then-image-e c =
    let a = c.args in
    rw (sym c.root.ensures ∙ c.in-Some.is) (sym (pour_then _ _ _ _ c.in_ok-e.ensures.index_after ∙ rw (le-leb (length a.image.now) c.in_ok-e.e.at c.if-image-e.true) (pour_end _ _ _)))

pub returns-else-image-e : goal.returns-else-image-e
unfolding keys_of
returns-else-image-e c =
    let a = c.args in
    rw (c.refuse-else-image-e.ensures, sym c.root.ensures ∙ c.in-Some.is) (sym (pour_then _ _ _ _ c.in_ok-e.ensures.index_after ∙ rw (lt-leb (length a.image.now) c.in_ok-e.e.at c.if-image-e.false) (pour_stop _ _ _ _)))
