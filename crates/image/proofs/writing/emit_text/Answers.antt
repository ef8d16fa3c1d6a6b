-- The row is laid behind the count where its text is named, and else refused.
use Rattle.wire.proofs.Kit.{sym, ◌∙◌, arith}
use Rattle.image.specs.Record.{◌bytes◌, none}
use Rattle.image.specs.Out.{end, row_of}
use Rattle.image.proofs.Pouring.{inside, pour_row, pour_unnamed, pour_stop, row_in_count, row_in_mark, row_in_a, row_in_row, grown_stop, grown_next}
use Rattle.image.proofs.writing.emit_text.Goals as goal

pub returns-then-count-gt-MOST : goal.returns-then-count-gt-MOST
returns-then-count-gt-MOST c = let a = c.args in rw c.refuse.ensures (record { out_after = rw (row_in_count a.count (a.text.now) (row_of (a.v bytes a.mark) (a.w bytes a.n) none a.place a.n) a.at (end a.next.at) (omega arith)) (sym (pour_stop _ _ _ _)); grown = grown_stop })

pub returns-then-v-gt8 : goal.returns-then-v-gt8
returns-then-v-gt8 c = let a = c.args in rw c.refuse-then-v-gt8.ensures (record { out_after = rw (row_in_mark a.count (a.text.now) (row_of (a.v bytes a.mark) (a.w bytes a.n) none a.place a.n) a.at (end a.next.at) (omega arith) (omega arith)) (sym (pour_stop _ _ _ _)); grown = grown_stop })

pub returns-then-w-gt8 : goal.returns-then-w-gt8
returns-then-w-gt8 c = let a = c.args in rw c.refuse-then-w-gt8.ensures (record { out_after = rw (row_in_a a.count (a.text.now) (row_of (a.v bytes a.mark) (a.w bytes a.n) none a.place a.n) a.at (end a.next.at) (omega arith) (omega arith) (omega arith)) (sym (pour_stop _ _ _ _)); grown = grown_stop })

pub lay_text-requires : goal.lay_text-requires
lay_text-requires c =
    let a = c.args in
    let i = inside (a.text.now) (row_of (a.v bytes a.mark) (a.w bytes a.n) none a.place a.n) (sym c.named.ensures ∙ c.if-named.true) in
    (omega arith, omega arith, i.fits)

pub overflow_add-result-then-named-2 : goal.overflow_add-result-then-named-2
overflow_add-result-then-named-2 c =
    let a = c.args in
    let i = inside (a.text.now) (row_of (a.v bytes a.mark) (a.w bytes a.n) none a.place a.n) (sym c.named.ensures ∙ c.if-named.true) in
    omega (arith, i.fits, c.well_formed)

pub returns-then-named : goal.returns-then-named
returns-then-named c =
    let a = c.args in
    let t = a.text.now in
    let r = row_of (a.v bytes a.mark) (a.w bytes a.n) none a.place a.n in
    let e = sym c.named.ensures ∙ c.if-named.true in
    let i = inside t r e in record {
      out_after = rw (row_in_row a.count t r a.at (end a.next.at) (omega arith) (omega arith) (omega arith) (omega arith))
          (pour_row t r a.at a.next.at a.count (a.out.now) e (omega (arith, i.size)) c.lay_text.ensures);
      grown = grown_next (omega (arith, i.fits));
    }

pub returns-else-named : goal.returns-else-named
returns-else-named c = let a = c.args in
    let t = a.text.now in
    let r = row_of (a.v bytes a.mark) (a.w bytes a.n) none a.place a.n in
    let e = sym c.named.ensures ∙ c.if-named.false in rw c.refuse-else-named.ensures (record { out_after = rw (row_in_row a.count t r a.at (end a.next.at) (omega arith) (omega arith) (omega arith) (omega arith)) (pour_unnamed t r a.at a.next.at a.count (a.out.now) e); grown = grown_stop })
