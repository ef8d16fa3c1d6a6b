-- The readers without records of a value, of pairs and of values in a row, which call each other: each counts what its part of the reading says.
use Rattle.std.specs.Prelude.{◌+◌, ◌-◌}
use Rattle.std.proofs.lemmas.Result.{err_from_is_err_and}
use Rattle.wire.proofs.Kit.{ℕ, refl, sym, ◌∙◌, le_refl, arith, length}
use Rattle.image.specs.Due.{Fact, ◌>>=◌}
use Rattle.amf0.specs.Reading.{value as value_of, pairs as pairsOf, items as items_of, follow, own_at}
use Rattle.amf0.proofs.Laws.{value_cut, value_deep, value_refused, value_fields, pairs_cut, items_done}
use Rattle.amf0.proofs.Parts.{part_ok, ends_text}
use Rattle.amf0.proofs.Counting.{count_then, count_halt, count_stop, count_end, count_field, pairs_stop, count_pairs_end, count_pairs, items_next, passed_stop, value_passed, value_noted, onward, onward_next}
use Rattle.amf0.proofs.survey.+items_pairs_value.Goals as goal

pub items-returns-in_err-m-clause-t_after : goal.items-returns-in_err-m-clause-t_after
items-returns-in_err-m-clause-t_after t c =
    let a = c.args in
    let s = a.s.now in
    let l = c.loop in
    let inner = value_of a.left s in
    let p = err_from_is_err_and c.from_residual.result c.from_residual.ensures.1 in
    rw (p.1, p.2, l.invariant.2, items_next inner a.n l.counter l.c.at c.loop-test.true)
    (count_field a.base c.be_u8.result (inner l.c.at >>= items_of inner (a.n - (l.counter + 1))) l.t
    (λ x y e. rw (value_cut s l.c.at a.left (sym c.be_u8.ensures ∙ e))) c.in_err-m.ensures)

pub items-returns-in_err-c-clause-t_after : goal.items-returns-in_err-c-clause-t_after
items-returns-in_err-c-clause-t_after t c =
    let a = c.args in
    let l = c.loop in
    let inner = value_of a.left a.s.now in
    let p = err_from_is_err_and c.from_residual-in_err-c.result c.from_residual-in_err-c.ensures.1 in
    rw (p.1, p.2, l.invariant.2, items_next inner a.n l.counter l.c.at c.loop-test.true)
    (sym (count_halt a.base (inner l.c.at) (items_of inner (a.n - (l.counter + 1))) l.t c.in_err-c.ensures.t_after))

pub items-loop-preserved : goal.items-loop-preserved
items-loop-preserved t c =
    let a = c.args in
    let l = c.loop in
    let inner = value_of a.left a.s.now in
    let b = c.in_ok-c.ensures.onward.bounds c.in_ok-c.c refl in (
      omega arith,
      omega arith,
      rw (l.invariant.2, items_next inner a.n l.counter l.c.at c.loop-test.true)
          (count_then a.base (inner l.c.at) (items_of inner (a.n - (l.counter + 1))) l.t c.in_ok-c.ensures.t_after),
    )

pub items-returns-clause-t_after : goal.items-returns-clause-t_after
items-returns-clause-t_after t c =
    let a = c.args in
    let l = c.loop in
    rw (l.invariant.2, items_done (value_of a.left a.s.now) (a.n - l.counter) l.c.at (omega arith)) (sym (count_end _ _))

pub pairs-loop-key-init : goal.pairs-loop-key-init
pairs-loop-key-init t c = (le_refl _, c.requires.2, length c.args.s.now, omega arith, refl)

pub pairs-returns-in_err-key-clause-t_after : goal.pairs-returns-in_err-key-clause-t_after
pairs-returns-in_err-key-clause-t_after t c =
    let a = c.args in
    let s = a.s.now in
    let l = c.loop-key in
    let inner = value_of a.left s in
    let p = err_from_is_err_and c.from_residual.result c.from_residual.ensures.1 in
    rw (p.1, p.2, l.invariant.4)
    (count_field a.base c.parse_string.result (pairsOf inner s l.invariant.2 l.c.at) l.t
    (λ x y e. pairs_cut s l.c.at inner l.invariant.2 l.invariant.3 (sym c.parse_string.ensures ∙ e)) c.in_err-key.ensures)

pub pairs-returns-in_err-m-clause-t_after : goal.pairs-returns-in_err-m-clause-t_after
pairs-returns-in_err-m-clause-t_after t c =
    let a = c.args in
    let s = a.s.now in
    let l = c.loop-key in
    let inner = value_of a.left s in
    let key = sym c.parse_string.ensures ∙ part_ok a.base _ c.in_ok-key.ensures in
    let p = err_from_is_err_and c.from_residual-in_err-m.result c.from_residual-in_err-m.ensures.1 in
    rw (p.1, p.2, l.invariant.4)
    (count_field a.base c.be_u8.result (pairsOf inner s l.invariant.2 l.c.at) l.t
    (λ x y e. pairs_stop a.base s inner l.invariant.2 l.c.at l.t l.invariant.3 key (sym c.be_u8.ensures ∙ e)) c.in_err-m.ensures)

pub pairs-returns-then-m-eq9-clause-t_after : goal.pairs-returns-then-m-eq9-clause-t_after
pairs-returns-then-m-eq9-clause-t_after t c =
    let a = c.args in
    let s = a.s.now in
    let l = c.loop-key in
    let key = sym c.parse_string.ensures ∙ part_ok a.base _ c.in_ok-key.ensures in
    let mark = sym c.be_u8.ensures ∙ part_ok a.base _ c.in_ok-m.ensures in
    rw (l.invariant.4, c.note_dropped.ensures) (sym (count_pairs_end a.base s (value_of a.left s) l.invariant.2 l.c.at l.t l.invariant.3 key mark c.if-m-eq9.true))

pub pairs-returns-in_err-c-clause-t_after : goal.pairs-returns-in_err-c-clause-t_after
pairs-returns-in_err-c-clause-t_after t c =
    let a = c.args in
    let s = a.s.now in
    let l = c.loop-key in
    let inner = value_of a.left s in
    let key = sym c.parse_string.ensures ∙ part_ok a.base _ c.in_ok-key.ensures in
    let mark = sym c.be_u8.ensures ∙ part_ok a.base _ c.in_ok-m.ensures in
    let p = err_from_is_err_and c.from_residual-in_err-c.result c.from_residual-in_err-c.ensures.1 in
    rw (p.1, p.2, l.invariant.4, count_pairs a.base s inner l.invariant.2 l.c.at l.t l.invariant.3 key mark c.if-m-eq9.false)
    (sym (count_halt a.base (inner c.in_ok-key.q.at) (pairsOf inner s (l.invariant.2 - 1)) l.t c.in_err-c.ensures.t_after))

pub pairs-loop-key-preserved : goal.pairs-loop-key-preserved
pairs-loop-key-preserved t c =
    let a = c.args in
    let s = a.s.now in
    let l = c.loop-key in
    let f = c.loop-key.invariant.2 in
    let inner = value_of a.left s in
    let key = sym c.parse_string.ensures ∙ part_ok a.base _ c.in_ok-key.ensures in
    let mark = sym c.be_u8.ensures ∙ part_ok a.base _ c.in_ok-m.ensures in
    let g = ends_text s l.c.at 2 _ key in
    let b = c.in_ok-c.ensures.onward.bounds c.in_ok-c.c refl in (
      omega (arith, l.invariant.0),
      omega arith,
      f - 1,
      omega (arith, l.invariant.3),
      rw (l.invariant.4, count_pairs a.base s inner f l.c.at l.t l.invariant.3 key mark c.if-m-eq9.false)
          (count_then a.base (inner c.in_ok-key.q.at) (pairsOf inner s (f - 1)) l.t c.in_ok-c.ensures.t_after),
    )

pub value-returns-in-None-clause-t_after : goal.value-returns-in-None-clause-t_after
value-returns-in-None-clause-t_after t c =
    let a = c.args in
    rw (c.refuse.ensures, value_refused a.s.now a.c.at a.left a.m (sym c.in-None.ensures) c.requires.2) (sym (count_stop _ _ _))

pub value-returns-then-left-eq0-clause-t_after : goal.value-returns-then-left-eq0-clause-t_after
value-returns-then-left-eq0-clause-t_after t c =
    let a = c.args in
    rw (c.refuse-then-left-eq0.ensures, value_deep a.s.now a.c.at a.left a.m (sym c.in-Some.ensures) c.if-left-eq0.true c.requires.2)
    (sym (count_stop _ _ _))

pub value-returns-in_err-f-in-Some-clause-t_after : goal.value-returns-in_err-f-in-Some-clause-t_after
value-returns-in_err-f-in-Some-clause-t_after t c =
    let a = c.args in
    let s = a.s.now in
    let look : ℕ → Fact = own_at (a.left - 1) s a.c.at in
    let more = follow (value_of (a.left - 1) s) s in
    let p = err_from_is_err_and c.from_residual.result c.from_residual.ensures.1 in
    rw (p.1, p.2, value_fields s a.c.at a.left a.m (sym c.in-Some.ensures) c.if-left-eq0.false c.requires.2)
    (rw (passed_stop a.base a.c.at look more _ c.in_err-f-in-Some.ensures) (sym (count_stop _ _ _)))

pub value-note-requires : goal.value-note-requires
value-note-requires t c =
    let a = c.args in
    let g = value_passed a.base a.s.now a.c.at c.requires.2 (sym c.in-Some.ensures) c.in_ok-f-in-Some.ensures in
    (omega (arith, g.0), g.1, omega (arith, c.requires.1), g.2)

pub value-pairs-requires : goal.value-pairs-requires
value-pairs-requires t c =
    let a = c.args in
    let g = value_passed a.base a.s.now a.c.at c.requires.2 (sym c.in-Some.ensures) c.in_ok-f-in-Some.ensures in
    (omega (arith, c.if-left-eq0.false, c.decreases), (c.requires.0, omega (arith, c.requires.1), g.1))

pub value-items-requires : goal.value-items-requires
value-items-requires t c =
    let a = c.args in
    let g = value_passed a.base a.s.now a.c.at c.requires.2 (sym c.in-Some.ensures) c.in_ok-f-in-Some.ensures in
    (omega (arith, c.if-left-eq0.false, c.decreases), (c.requires.0, omega (arith, c.requires.1), g.1))

pub value-returns-in-Nothing : goal.value-returns-in-Nothing
unfolding follow
value-returns-in-Nothing t c =
    let a = c.args in
    let g = value_passed a.base a.s.now a.c.at c.requires.2 (sym c.in-Some.ensures) c.in_ok-f-in-Some.ensures in
    record { t_after = rw (value_noted a.base a.s.now a.c.at c.requires.2 (sym c.in-Some.ensures) c.in_ok-f-in-Some.ensures a.left a.t.now c.if-left-eq0.false, ← c.note.ensures, c.in-Nothing.is) (sym (count_end _ _)); onward = onward_next g.0 g.1 }

pub value-returns-in-Pairs : goal.value-returns-in-Pairs
unfolding follow
value-returns-in-Pairs t c =
    let a = c.args in
    let g = value_passed a.base a.s.now a.c.at c.requires.2 (sym c.in-Some.ensures) c.in_ok-f-in-Some.ensures in
    record { t_after = rw (value_noted a.base a.s.now a.c.at c.requires.2 (sym c.in-Some.ensures) c.in_ok-f-in-Some.ensures a.left a.t.now c.if-left-eq0.false, ← c.note.ensures, c.in-Pairs.is) c.pairs.ensures.t_after; onward = onward c.pairs.ensures.onward g.0 (le_refl _) }

pub value-returns-in-Values : goal.value-returns-in-Values
unfolding follow
value-returns-in-Values t c =
    let a = c.args in
    let g = value_passed a.base a.s.now a.c.at c.requires.2 (sym c.in-Some.ensures) c.in_ok-f-in-Some.ensures in
    record { t_after = rw (value_noted a.base a.s.now a.c.at c.requires.2 (sym c.in-Some.ensures) c.in_ok-f-in-Some.ensures a.left a.t.now c.if-left-eq0.false, ← c.note.ensures, c.in-Values.is) c.items.ensures.t_after; onward = onward c.items.ensures.onward g.0 (le_refl _) }
