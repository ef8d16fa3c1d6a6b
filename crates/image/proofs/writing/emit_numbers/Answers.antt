-- The numbers are laid behind the count.
use Rattle.wire.proofs.Kit.{sym, arith}
use Rattle.image.specs.Record.{◌bytes◌}
use Rattle.image.specs.Out.{end, row_of}
use Rattle.image.proofs.Pouring.{bytes_none, length_numbers, named_none, pour_row, pour_stop, row_in_count, row_in_mark, row_in_a, row_in_b, row_in_row, grown_stop, grown_next}
use Rattle.image.proofs.writing.emit_numbers.Goals as goal

pub returns-then-count-gt-MOST : goal.returns-then-count-gt-MOST
returns-then-count-gt-MOST c = let a = c.args in rw c.refuse.ensures (record { by_index = λ text place. rw (row_in_count a.count text (row_of (a.u bytes a.l) (a.v bytes a.m) (a.w bytes a.n) 0 0) place (end a.next.at) (omega arith)) (sym (pour_stop _ _ _ _)); grown = grown_stop })

pub returns-then-u-gt8 : goal.returns-then-u-gt8
returns-then-u-gt8 c = let a = c.args in rw c.refuse-then-u-gt8.ensures (record { by_index = λ text place. rw (row_in_mark a.count text (row_of (a.u bytes a.l) (a.v bytes a.m) (a.w bytes a.n) 0 0) place (end a.next.at) (omega arith) (omega arith)) (sym (pour_stop _ _ _ _)); grown = grown_stop })

pub returns-then-v-gt8 : goal.returns-then-v-gt8
returns-then-v-gt8 c = let a = c.args in rw c.refuse-then-v-gt8.ensures (record { by_index = λ text place. rw (row_in_a a.count text (row_of (a.u bytes a.l) (a.v bytes a.m) (a.w bytes a.n) 0 0) place (end a.next.at) (omega arith) (omega arith) (omega arith)) (sym (pour_stop _ _ _ _)); grown = grown_stop })

pub returns-then-w-gt8 : goal.returns-then-w-gt8
returns-then-w-gt8 c = let a = c.args in rw c.refuse-then-w-gt8.ensures (record { by_index = λ text place. rw (row_in_b a.count text (row_of (a.u bytes a.l) (a.v bytes a.m) (a.w bytes a.n) 0 0) place (end a.next.at) (omega arith) (omega arith) (omega arith) (omega arith)) (sym (pour_stop _ _ _ _)); grown = grown_stop })

pub returns : goal.returns
returns c =
    let a = c.args in
    let x = a.u bytes a.l in
    let y = a.v bytes a.m in
    let z = a.w bytes a.n in record {
      by_index = λ text place.
          rw (row_in_row a.count text (row_of x y z 0 0) place (end a.next.at) (omega arith) (omega arith) (omega arith) (omega arith))
          (pour_row text (row_of x y z 0 0) place a.next.at a.count (a.out.now) (named_none text) (rw (bytes_none text x y z) (omega (arith, length_numbers x y z))) (rw (bytes_none text x y z) c.lay_numbers.ensures));
      grown = grown_next (omega arith);
    }
