-- Each test that tells them apart, in the order of the ranks.
use Rattle.index.proofs.Ordering.{cmp_order, by_container, by_key, by_rest}
use Rattle.wire.proofs.Kit.{◌∙◌}
use Rattle.index.proofs.order.sooner.Goals as goal

pub returns-then-a-b : goal.returns-then-a-b
returns-then-a-b c = let a = c.args in by_container a.image.now a.text.now a.a a.b c.if-a-b.true

pub returns-in-Less : goal.returns-in-Less
returns-in-Less c =
    let a = c.args in
    rw c.in-Less.is at (by_key a.image.now a.text.now a.a a.b c.if-a-b.false c.cmp.result _ _ c.requires c.key_text.ensures (c.cmp.ensures ∙ cmp_order _ _))

pub returns-in-Greater : goal.returns-in-Greater
returns-in-Greater c =
    let a = c.args in
    rw c.in-Greater.is at (by_key a.image.now a.text.now a.a a.b c.if-a-b.false c.cmp.result _ _ c.requires c.key_text.ensures (c.cmp.ensures ∙ cmp_order _ _))

pub returns-in-Equal : goal.returns-in-Equal
returns-in-Equal c =
    let a = c.args in
    c.lt.ensures ∙ by_rest a.image.now a.text.now a.a a.b c.if-a-b.false c.cmp.result _ _ c.requires c.key_text.ensures (c.cmp.ensures ∙ cmp_order _ _) c.in-Equal.is
