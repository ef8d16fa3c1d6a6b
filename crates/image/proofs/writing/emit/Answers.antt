-- The row is laid behind the count where its text is named, and else refused.
use Rattle.wire.proofs.Kit.{sym, ◌∙◌, arith}
use Rattle.image.specs.Out.{end}
use Rattle.image.proofs.Pouring.{inside, pour_row, pour_unnamed, pour_stop, row_in_count, row_in_mark, row_in_a, row_in_b, row_in_row, grown_stop, grown_next}
use Rattle.image.proofs.writing.emit.Goals as goal

pub returns-then-count-gt-MOST : goal.returns-then-count-gt-MOST
returns-then-count-gt-MOST c = let a = c.args in rw c.refuse.ensures (record { out_after = rw (row_in_count a.count (a.text.now) a.r a.place (end a.next.at) (omega arith)) (sym (pour_stop _ _ _ _)); grown = grown_stop })

pub returns-then-mark-gt8 : goal.returns-then-mark-gt8
returns-then-mark-gt8 c = let a = c.args in rw c.refuse-then-mark-gt8.ensures (record { out_after = rw (row_in_mark a.count (a.text.now) a.r a.place (end a.next.at) (omega arith) (omega arith)) (sym (pour_stop _ _ _ _)); grown = grown_stop })

pub returns-then-a-gt8 : goal.returns-then-a-gt8
returns-then-a-gt8 c = let a = c.args in rw c.refuse-then-a-gt8.ensures (record { out_after = rw (row_in_a a.count (a.text.now) a.r a.place (end a.next.at) (omega arith) (omega arith) (omega arith)) (sym (pour_stop _ _ _ _)); grown = grown_stop })

pub returns-then-b-gt8 : goal.returns-then-b-gt8
returns-then-b-gt8 c = let a = c.args in rw c.refuse-then-b-gt8.ensures (record { out_after = rw (row_in_b a.count (a.text.now) a.r a.place (end a.next.at) (omega arith) (omega arith) (omega arith) (omega arith)) (sym (pour_stop _ _ _ _)); grown = grown_stop })

pub overflow_add-size-then-named-2 : goal.overflow_add-size-then-named-2
overflow_add-size-then-named-2 c =
    let a = c.args in
    let i = inside (a.text.now) a.r (sym c.named.ensures ∙ c.if-named.true) in
    omega (arith, c.well_formed)

pub lay_row-requires : goal.lay_row-requires
lay_row-requires c =
    let a = c.args in
    let i = inside (a.text.now) a.r (sym c.named.ensures ∙ c.if-named.true) in
    sym i.size

pub overflow_add-result : goal.overflow_add-result
overflow_add-result c =
    let a = c.args in
    let i = inside (a.text.now) a.r (sym c.named.ensures ∙ c.if-named.true) in
    omega (arith, c.well_formed)

pub returns-then-named : goal.returns-then-named
returns-then-named c =
    let a = c.args in
    let t = a.text.now in
    let e = sym c.named.ensures ∙ c.if-named.true in
    let i = inside t a.r e in record {
      out_after = rw (row_in_row a.count t a.r a.place (end a.next.at) (omega arith) (omega arith) (omega arith) (omega arith))
          (pour_row t a.r a.place a.next.at a.count (a.out.now) e (rw i.size) c.lay_row.ensures);
      grown = grown_next (omega arith);
    }

pub returns-else-named : goal.returns-else-named
returns-else-named c = let a = c.args in
    let t = a.text.now in
    let e = sym c.named.ensures ∙ c.if-named.false in rw c.refuse-else-named.ensures (record { out_after = rw (row_in_row a.count t a.r a.place (end a.next.at) (omega arith) (omega arith) (omega arith) (omega arith)) (pour_unnamed t a.r a.place a.next.at a.count (a.out.now) e); grown = grown_stop })
