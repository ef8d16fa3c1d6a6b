-- The readers of a value, of pairs and of values in a row, which call each other: each carries out what its part of the reading says.
use Rattle.std.specs.Prelude.{◌+◌, ◌-◌, ◌≤◌, ◌<◌, ◌≡◌, Some}
use Rattle.std.proofs.lemmas.Result.{err_from_is_err_and}
use Rattle.wire.proofs.Kit.{ℕ, refl, sym, ap, ◌∙◌, le_refl, arith, length, get_or}
use Rattle.wire.specs.Field.{got_at, u8_at}
use Rattle.wire.proofs.Laws.{number_one, u8_next, text_next}
use Rattle.image.specs.declared.record.Record.TheVariants.{Key}
use Rattle.image.specs.Due.{Due, Fact, run, seen, due, end, stop, ◌>>=◌, based}
use Rattle.image.proofs.Laws.{run_then, run_halt, run_then_based, run_halt_based, run_stop, run_seen, run_end, within, within_next}
use Rattle.amf0.specs.Fields.{fields_at, got_fields}
use Rattle.amf0.specs.Reading.{value as value_of, pairs as pairsOf, items as items_of, pair as pair_of, follow, own_at}
use Rattle.amf0.proofs.Laws.{value_deep, value_refused, value_fields, fields_refused, fields_due, pairs_pair, pair_end, pair_key, items_done, items_item, u8_whole}
use Rattle.amf0.proofs.Parts.{part_ok}
use Rattle.amf0.specs.Marker.{marker_of}
use Rattle.amf0.proofs.Counting.{fields_within}
use Rattle.amf0.proofs.Halted.{value_halted, pair_halted, pairs_halted}
use Rattle.amf0.proofs.read.+items_pairs_value.Goals.{pairs-In_ok-t, pairs-In_ok-v, value-After-parse_fields, value-In_ok-e-in-Some}
use Rattle.amf0.proofs.read.+items_pairs_value.Goals as goal

pub items-returns-in_err-m-clause-image_after : goal.items-returns-in_err-m-clause-image_after
items-returns-in_err-m-clause-image_after t c =
    let a = c.args in
    let l = c.loop in
    let inner = value_of a.left (a.s.now) in
    let p = err_from_is_err_and c.from_residual.result c.from_residual.ensures.1 in
    let n = a.n - l.counter in
    rw (p.1, p.2, l.invariant.4, items_item inner n l.c.at (omega arith))
    (sym (run_halt_based a.base (inner l.c.at) (items_of inner (n - 1)) _ _ (rw (value_halted a.base (a.s.now) l.c.at c.in_err-m.ensures c.be_u8.ensures a.left) (sym (run_stop _ _ _ _)))))

pub items-value-requires : goal.items-value-requires
items-value-requires t c =
    let e = sym c.be_u8.ensures ∙ part_ok c.args.base c.be_u8.result c.in_ok-m.ensures in
    (omega arith, (c.requires.0, u8_whole _ _ e))

pub items-returns-in_err-d-clause-image_after : goal.items-returns-in_err-d-clause-image_after
items-returns-in_err-d-clause-image_after t c =
    let a = c.args in
    let l = c.loop in
    let inner = value_of a.left (a.s.now) in
    let p = err_from_is_err_and c.from_residual-in_err-d.result c.from_residual-in_err-d.ensures.1 in
    let n = a.n - l.counter in
    rw (p.1, p.2, l.invariant.4, items_item inner n l.c.at (omega arith))
    (sym (run_halt_based a.base (inner l.c.at) (items_of inner (n - 1)) _ _ c.in_err-d.ensures.image_after))

pub items-loop-preserved : goal.items-loop-preserved
items-loop-preserved t c =
    let a = c.args in
    let l = c.loop in
    let inner = value_of a.left (a.s.now) in
    let b = c.in_ok-d.ensures.within.bounds c.in_ok-d.d c.in_ok-d.total refl in
    let k = c.value.auto.image in
    let n = a.n - l.counter in
    let e : n - 1 ≡ a.n - (l.counter + 1) = omega arith in (
      omega arith,
      omega arith,
      omega arith,
      omega arith,
      rw (l.invariant.4, items_item inner n l.c.at (omega arith), ← e) (run_then_based a.base (inner l.c.at) (items_of inner (n - 1)) _ _ c.in_ok-d.ensures.image_after),
    )

pub items-returns-clause-image_after : goal.items-returns-clause-image_after
items-returns-clause-image_after t c =
    let l = c.loop in
    rw (l.invariant.4, items_done (value_of c.args.left (c.args.s.now)) (c.args.n - l.counter) l.c.at (omega arith)) (sym (run_end _ _ _))

pub pairs-loop-t-init : goal.pairs-loop-t-init
pairs-loop-t-init t c =
    let p = c.requires in
    (le_refl _, p.1, p.2, refl, length (c.args.s.now), omega arith, refl)

pub pairs-returns-in_err-t-clause-image_after : goal.pairs-returns-in_err-t-clause-image_after
pairs-returns-in_err-t-clause-image_after t c =
    let a = c.args in
    let l = c.loop-t in
    let p = err_from_is_err_and c.from_residual.result c.from_residual.ensures.1 in
    rw (p.1, p.2, l.invariant.6, pairs_halted a.base (a.s.now) l.c.at c.in_err-t.ensures c.parse_string.ensures (value_of a.left (a.s.now)) l.invariant.4 l.invariant.5) (sym (run_stop _ _ _ _))

-- the key of a pair and what follows it are left to read
record Keyed (t : ℕ) (c : pairs-In_ok-t t) : Type 0 where
  fuel : ℕ
  enough : length (c.args.s.now) ≤ fuel + c.loop-t.c.at + 1
  from : c.loop-t.c.at + 2 ≤ c.in_ok-t.t.place
  ends : c.in_ok-t.t.place ≤ c.in_ok-t.q.at
  fits : c.in_ok-t.q.at ≤ length (c.args.s.now)
  same : let a = c.args in
      let s = a.s.now in
      let l = c.loop-t in
      let inner = value_of a.left s in
      run (based a.base (pairsOf inner s (length s) a.start.at)) a.done (a.image.now)
      ≡ run (based a.base (pair_of inner (pairsOf inner s fuel) s l.c.at c.in_ok-t.t.place c.in_ok-t.t.length c.in_ok-t.q.at)) l.made l.image

pairs_keyed : (t : ℕ) (c : pairs-In_ok-t t) → Keyed t c
pairs_keyed t c =
    let a = c.args in
    let s = a.s.now in
    let l = c.loop-t in
    let inner = value_of a.left s in
    let key = c.in_ok-t.t in
    let e = sym c.parse_string.ensures ∙ part_ok a.base c.parse_string.result c.in_ok-t.ensures in
    let r = text_next 2 s l.c.at key.place key.length c.in_ok-t.q e in
    let f = l.invariant.4 in
    record {
      fuel = f - 1;
      enough = omega arith;
      from = omega arith;
      ends = omega arith;
      fits = omega arith;
      same = l.invariant.6 ∙ rw (pairs_pair s l.c.at inner f l.invariant.5 e (omega arith));
    }

pub pairs-returns-in_err-m-clause-image_after : goal.pairs-returns-in_err-m-clause-image_after
pairs-returns-in_err-m-clause-image_after t c =
    let k = pairs_keyed t (goal.at.pairs-returns-in_err-m-clause-image_after t c).In_ok-t in
    let a = c.args in
    let p = err_from_is_err_and c.from_residual-in_err-m.result c.from_residual-in_err-m.ensures.1 in
    rw (p.1, p.2, k.same, pair_halted a.base (a.s.now) c.in_ok-t.q.at c.in_err-m.ensures c.be_u8.ensures (value_of a.left (a.s.now)) (pairsOf (value_of a.left (a.s.now)) (a.s.now) k.fuel) c.loop-t.c.at c.in_ok-t.t.place c.in_ok-t.t.length)
    (sym (run_stop _ _ _ _))

pub pairs-overflow_add-base : goal.pairs-overflow_add-base
pairs-overflow_add-base t c =
    let k = pairs_keyed t (goal.at.pairs-overflow_add-base t c).In_ok-t in
    omega (arith, c.requires.0)

pub pairs-returns-then-m-eq9-clause-image_after : goal.pairs-returns-then-m-eq9-clause-image_after
pairs-returns-then-m-eq9-clause-image_after t c =
    let k = pairs_keyed t (goal.at.pairs-returns-then-m-eq9-clause-image_after t c).In_ok-t in
    let e = sym c.be_u8.ensures ∙ part_ok c.args.base c.be_u8.result c.in_ok-m.ensures in
    rw (k.same, pair_end _ c.loop-t.c.at _ _ c.in_ok-t.t.place c.in_ok-t.t.length c.in_ok-t.q.at e c.if-m-eq9.true, run_seen) c.put_end.ensures.image_after

pub pairs-returns-then-m-eq9-clause-within : goal.pairs-returns-then-m-eq9-clause-within
pairs-returns-then-m-eq9-clause-within t c =
    let k = pairs_keyed t (goal.at.pairs-returns-then-m-eq9-clause-within t c).In_ok-t in
    let r = u8_next _ _ _ _ (sym c.be_u8.ensures ∙ part_ok c.args.base c.be_u8.result c.in_ok-m.ensures) in
    let i = c.loop-t.invariant.0 in
    within c.put_end.ensures.within (omega arith) (omega arith) (omega (arith, c.loop-t.invariant.3))

pub pairs-overflow_add-base-in-loop-t : goal.pairs-overflow_add-base-in-loop-t
pairs-overflow_add-base-in-loop-t t c =
    let k = pairs_keyed t (goal.at.pairs-overflow_add-base-in-loop-t t c).In_ok-t in
    omega (arith, c.requires.0)

pub pairs-returns-in_err-v-clause-image_after : goal.pairs-returns-in_err-v-clause-image_after
pairs-returns-in_err-v-clause-image_after t c =
    let a = c.args in
    let s = a.s.now in
    let inner = value_of a.left s in
    let k = pairs_keyed t (goal.at.pairs-returns-in_err-v-clause-image_after t c).In_ok-t in
    let l = c.loop-t in
    let key = c.in_ok-t.t in
    let e = sym c.be_u8.ensures ∙ part_ok a.base c.be_u8.result c.in_ok-m.ensures in
    let d = due (Key (a.base + key.place) key.length) (a.base + l.c.at) (end c.in_ok-t.q.at) in
    let more : ℕ → Due = λ n. based a.base (inner n >>= pairsOf inner s k.fuel) in
    let p = err_from_is_err_and c.from_residual-in_err-v.result c.from_residual-in_err-v.ensures.1 in
    rw (p.1, p.2, k.same, pair_key s l.c.at inner (pairsOf inner s k.fuel) key.place key.length c.in_ok-t.q.at e c.if-m-eq9.false)
    (sym (run_halt d more _ _ c.in_err-v.ensures.image_after))

-- the key's record is laid, and its value and what follows it are left to read
record Laid (t : ℕ) (c : pairs-In_ok-v t) : Type 0 where
  fuel : ℕ
  enough : length (c.args.s.now) ≤ fuel + c.loop-t.c.at + 1
  from : c.loop-t.c.at + 2 ≤ c.in_ok-v.v.at
  room : c.in_ok-v.laid ≤ length c.put_key.new.image
  long : length c.put_key.new.image ≡ length (c.args.image.now)
  marker : u8_at (c.args.s.now) c.in_ok-v.v.at ≡ got_at c.in_ok-m.m (c.in_ok-v.v.at + 1)
  same : let a = c.args in
      let s = a.s.now in
      let inner = value_of a.left s in
      run (based a.base (pairsOf inner s (length s) a.start.at)) a.done (a.image.now)
      ≡ run (based a.base (inner c.in_ok-v.v.at >>= pairsOf inner s fuel)) c.in_ok-v.laid c.put_key.new.image

pairs_laid : (t : ℕ) (c : pairs-In_ok-v t) → Laid t c
pairs_laid t c =
    let a = c.args in
    let s = a.s.now in
    let inner = value_of a.left s in
    let k = pairs_keyed t (goal.at.pairs-In_ok-v t c).In_ok-t in
    let l = c.loop-t in
    let key = c.in_ok-t.t in
    let q = c.in_ok-t.q in
    let e = sym c.be_u8.ensures ∙ part_ok a.base c.be_u8.result c.in_ok-m.ensures in
    let b = c.in_ok-v.ensures.within.bounds c.in_ok-v.v c.in_ok-v.laid refl in
    let n = c.put_key.auto.image in
    let i = l.invariant.3 in
    let h : c.in_ok-v.v.at ≡ q.at = omega arith in
    let d = due (Key (a.base + key.place) key.length) (a.base + l.c.at) (end q.at) in
    let more : ℕ → Due = λ n. based a.base (inner n >>= pairsOf inner s k.fuel) in
    record {
      fuel = k.fuel;
      enough = k.enough;
      from = omega arith;
      room = omega arith;
      long = omega arith;
      marker = rw h (u8_whole s q.at e);
      same = k.same
          ∙ rw (pair_key s l.c.at inner (pairsOf inner s k.fuel) key.place key.length q.at e c.if-m-eq9.false)
          (run_then d more _ _ c.in_ok-v.ensures.image_after);
    }

pub pairs-value-requires : goal.pairs-value-requires
pairs-value-requires t c =
    let k = pairs_laid t (goal.at.pairs-value-requires t c).In_ok-v in
    (omega (arith, c.decreases), (c.requires.0, k.marker))

pub pairs-returns-in_err-d-clause-image_after : goal.pairs-returns-in_err-d-clause-image_after
pairs-returns-in_err-d-clause-image_after t c =
    let a = c.args in
    let s = a.s.now in
    let inner = value_of a.left s in
    let k = pairs_laid t (goal.at.pairs-returns-in_err-d-clause-image_after t c).In_ok-v in
    let p = err_from_is_err_and c.from_residual-in_err-d.result c.from_residual-in_err-d.ensures.1 in
    rw (p.1, p.2, k.same) (sym (run_halt_based a.base (inner c.in_ok-v.v.at) (pairsOf inner s k.fuel) _ _ c.in_err-d.ensures.image_after))

pub pairs-loop-t-smaller : goal.pairs-loop-t-smaller
pairs-loop-t-smaller t c =
    let k = pairs_laid t (goal.at.pairs-loop-t-smaller t c).In_ok-v in
    omega (arith, c.in_ok-d.ensures.within.bounds c.in_ok-d.d c.in_ok-d.total refl)

pub pairs-loop-t-preserved : goal.pairs-loop-t-preserved
pairs-loop-t-preserved t c =
    let a = c.args in
    let s = a.s.now in
    let inner = value_of a.left s in
    let k = pairs_laid t (goal.at.pairs-loop-t-preserved t c).In_ok-v in
    let b = c.in_ok-d.ensures.within.bounds c.in_ok-d.d c.in_ok-d.total refl in
    let n = c.value.auto.image in (
      omega (arith, c.loop-t.invariant.0),
      omega arith,
      omega arith,
      omega arith,
      k.fuel,
      omega arith,
      rw k.same (run_then_based a.base (inner c.in_ok-v.v.at) (pairsOf inner s k.fuel) _ _ c.in_ok-d.ensures.image_after),
    )

pub value-overflow_add-place : goal.value-overflow_add-place
value-overflow_add-place t c = let r = u8_next _ _ _ _ c.requires.1 in omega arith

pub value-returns-then-left-eq0-clause-image_after : goal.value-returns-then-left-eq0-clause-image_after
value-returns-then-left-eq0-clause-image_after t c =
    rw (c.refuse-then-left-eq0.ensures, value_deep (c.args.s.now) c.args.c.at c.args.left c.args.m (sym c.type_marker.ensures ∙ c.in-Some.is) c.if-left-eq0.true c.requires.1)
    (sym (run_stop _ _ _ _))

pub value-overflow_add-at : goal.value-overflow_add-at
value-overflow_add-at t c = let r = u8_next _ _ _ _ c.requires.1 in omega arith

pub value-parse_fields-requires : goal.value-parse_fields-requires
value-parse_fields-requires t c =
    let r = u8_next _ _ _ _ c.requires.1 in
    (c.requires.0, omega arith)

-- where a value's marker is known, and a level is left: what is left to read is what stands behind it
value_behind : (t : ℕ) (c : value-After-parse_fields t) → let a = c.args in let s = a.s.now in value_of a.left s a.c.at ≡ got_fields stop (fields_at s (a.c.at + 1) c.in-Some.k) (λ r f q. seen (own_at (a.left - 1) s a.c.at q) (due r a.c.at (follow (value_of (a.left - 1) s) s f q)))
value_behind t c =
    value_fields (c.args.s.now) c.args.c.at c.args.left c.args.m (sym c.type_marker.ensures ∙ c.in-Some.is) c.if-left-eq0.false c.requires.1

-- where a value's record is laid: what is left to read is what follows the value's own fields
value_laid : (t : ℕ) (c : value-In_ok-e-in-Some t) → let a = c.args in let s = a.s.now in let o = c.in_ok-e-in-Some in let f = c.in_ok-r-in-Some.f in (a.c.at + 1 ≤ o.e.at) × (o.e.at ≤ length s) × (o.laid ≤ length (a.image.now)) × (run (based a.base (value_of a.left s a.c.at)) a.made (a.image.now) ≡ run (based a.base (follow (value_of (a.left - 1) s) s f o.e.at)) o.laid c.put.new.image)
value_laid t c =
    let a = c.args in
    let s = a.s.now in
    let at = c.args.c.at in
    let o = c.in_ok-r-in-Some in
    let look : ℕ → Fact = own_at (a.left - 1) s at in
    let more = follow (value_of (a.left - 1) s) s in
    let d = due o.r (a.base + at) (end o.d.at) in
    let k : ℕ → Due = λ n. based a.base (more o.f n) in
    let m = u8_next _ _ _ _ c.requires.1 in
    let l : at < length s = omega (arith, m.within) in
    let byte : marker_of (get_or s at 0) ≡ Some c.in-Some.k = ap marker_of (sym (number_one s at l) ∙ sym m.value) ∙ sym c.type_marker.ensures ∙ c.in-Some.is in
    let g = fields_within a.base s at l byte o.ensures in
    let b = c.in_ok-e-in-Some.ensures.within.bounds c.in_ok-e-in-Some.e c.in_ok-e-in-Some.laid refl in (
      omega arith,
      omega arith,
      omega arith,
      rw (value_behind t (goal.at.value-In_ok-e-in-Some t c).After-parse_fields, fields_due a.base at look more _ o.ensures, run_seen) (run_then d k _ _ c.in_ok-e-in-Some.ensures.image_after),
    )

pub value-returns-in_err-r-in-Some-clause-image_after : goal.value-returns-in_err-r-in-Some-clause-image_after
value-returns-in_err-r-in-Some-clause-image_after t c =
    let a = c.args in
    let look : ℕ → Fact = own_at (a.left - 1) (a.s.now) a.c.at in
    let more = follow (value_of (a.left - 1) (a.s.now)) (a.s.now) in
    let p = err_from_is_err_and c.from_residual.result c.from_residual.ensures.1 in
    rw (p.1, p.2, value_behind t (goal.at.value-returns-in_err-r-in-Some-clause-image_after t c).After-parse_fields, fields_refused a.base a.c.at look more _ c.in_err-r-in-Some.ensures)
    (sym (run_stop _ _ _ _))

pub value-returns-in_err-e-in-Some-clause-image_after : goal.value-returns-in_err-e-in-Some-clause-image_after
value-returns-in_err-e-in-Some-clause-image_after t c =
    let a = c.args in
    let o = c.in_ok-r-in-Some in
    let look : ℕ → Fact = own_at (a.left - 1) (a.s.now) a.c.at in
    let more = follow (value_of (a.left - 1) (a.s.now)) (a.s.now) in
    let d = due o.r (a.base + a.c.at) (end o.d.at) in
    let k : ℕ → Due = λ n. based a.base (more o.f n) in
    let p = err_from_is_err_and c.from_residual-in_err-e-in-Some.result c.from_residual-in_err-e-in-Some.ensures.1 in
    rw (p.1, p.2, value_behind t (goal.at.value-returns-in_err-e-in-Some-clause-image_after t c).After-parse_fields, fields_due a.base a.c.at look more _ o.ensures, run_seen)
    (sym (run_halt d k _ _ c.in_err-e-in-Some.ensures.image_after))

pub value-returns-in-None-clause-image_after : goal.value-returns-in-None-clause-image_after
value-returns-in-None-clause-image_after t c =
    rw (c.refuse.ensures, value_refused (c.args.s.now) c.args.c.at c.args.left c.args.m (sym c.type_marker.ensures ∙ c.in-None.is) c.requires.1) (sym (run_stop _ _ _ _))

pub value-pairs-requires : goal.value-pairs-requires
value-pairs-requires t c =
    let k = value_laid t (goal.at.value-pairs-requires t c).In_ok-e-in-Some in
    (omega (arith, c.if-left-eq0.false, c.decreases), (c.requires.0, k.1, omega (arith, k.2, c.put.auto.image)))

pub value-items-requires : goal.value-items-requires
value-items-requires t c =
    let k = value_laid t (goal.at.value-items-requires t c).In_ok-e-in-Some in
    (omega (arith, c.if-left-eq0.false, c.decreases), (c.requires.0, k.1, omega (arith, k.2, c.put.auto.image)))

pub value-returns-in-Nothing-clause-image_after : goal.value-returns-in-Nothing-clause-image_after
unfolding follow
value-returns-in-Nothing-clause-image_after t c =
    let k = value_laid t (goal.at.value-returns-in-Nothing-clause-image_after t c).In_ok-e-in-Some in
    rw (k.3, c.in-Nothing.is) (sym (run_end _ _ _))

pub value-returns-in-Pairs-clause-image_after : goal.value-returns-in-Pairs-clause-image_after
unfolding follow
value-returns-in-Pairs-clause-image_after t c =
    let k = value_laid t (goal.at.value-returns-in-Pairs-clause-image_after t c).In_ok-e-in-Some in
    rw (k.3, c.in-Pairs.is) c.pairs.ensures.image_after

pub value-returns-in-Values-clause-image_after : goal.value-returns-in-Values-clause-image_after
unfolding follow
value-returns-in-Values-clause-image_after t c =
    let k = value_laid t (goal.at.value-returns-in-Values-clause-image_after t c).In_ok-e-in-Some in
    rw (k.3, c.in-Values.is) c.items.ensures.image_after

pub value-returns-in-Nothing-clause-within : goal.value-returns-in-Nothing-clause-within
value-returns-in-Nothing-clause-within t c =
    let k = value_laid t (goal.at.value-returns-in-Nothing-clause-within t c).In_ok-e-in-Some in
    within_next k.0 k.1 k.2

pub value-returns-in-Pairs-clause-within : goal.value-returns-in-Pairs-clause-within
value-returns-in-Pairs-clause-within t c =
    let k = value_laid t (goal.at.value-returns-in-Pairs-clause-within t c).In_ok-e-in-Some in
    within c.pairs.ensures.within k.0 (le_refl _) (omega (arith, c.put.auto.image))

pub value-returns-in-Values-clause-within : goal.value-returns-in-Values-clause-within
value-returns-in-Values-clause-within t c =
    let k = value_laid t (goal.at.value-returns-in-Values-clause-within t c).In_ok-e-in-Some in
    within c.items.ensures.within k.0 (le_refl _) (omega (arith, c.put.auto.image))
