-- The writers of a value and of the values that follow one, which call each other: each carries out what its part of the writing says.
use Rattle.std.specs.Prelude.{◌+◌, ◌-◌, ◌*◌, ◌≤◌, ◌≡◌}
use Rattle.wire.proofs.Kit.{ℕ, refl, sym, ap, ◌∙◌, le_refl, arith, length}
use Rattle.wire.specs.declared.cursor.Cursor.{Cursor}
use Rattle.std.proofs.lemmas.Result.{err_from_is_err_and}
use Rattle.wire.specs.Answer.{number_of}
use Rattle.wire.specs.Choice.{pick}
use Rattle.image.specs.Out.{pour, ◌>>=◌}
use Rattle.image.specs.Taking.{record_at}
use Rattle.image.proofs.Pouring.{pour_then, pour_halt, pour_stop, pour_end}
use Rattle.amf0.specs.declared.write.Rest.{Rest}
use Rattle.amf0.specs.declared.write.Rest.TheVariants.{Nothing, Pairs, Dense, Values}
use Rattle.amf0.specs.Code.{longest, growth, room, begun_to, Owned, key_to, end_to, Paired, owed}
use Rattle.amf0.specs.Writing.{value_at, value as value_of, pairs as pairsOf, rest as rest_of}
use Rattle.amf0.proofs.Putting.{ahead, ahead_next, past, value_shut, value_opened, dense_value, pour_indexed, items_done, items_item, rest_nothing}
use Rattle.amf0.proofs.Coming.{coming, Enough, coming_first, coming_due, pairs_coming, due_dense, owed_due}
use Rattle.amf0.proofs.write.+value_values.Goals.{value-then-value_at, value-else-value_at, values-in-Dense, values-in-Values+else-n-eq0, values-in-Pairs+in_ok-e-in-Pairs+in-Key, value-In_ok-e, values-After-due_at-due, values-Joined-due}
use Rattle.amf0.proofs.write.+value_values.Goals as goal

-- ---- a value
pub value-returns-then-left-eq0-clause-out_after : goal.value-returns-then-left-eq0-clause-out_after
value-returns-then-left-eq0-clause-out_after t c =
    let a = c.args in
    let why : number_of c.if-value_at.reason ≡ pick (value_at a.image.now a.c.at) 5 6 =
    elim c.if-value_at.branch [
      | value-then-value_at w ↦ rw (w.reason-is, sym c.value_at.ensures ∙ w.if-value_at.true)
      | value-else-value_at w ↦ rw (w.reason-is, sym c.value_at.ensures ∙ w.if-value_at.false)
    ] in
    rw (value_shut a.image.now a.text.now a.c.at a.left c.if-left-eq0.true, c.refuse.ensures, why) (sym (pour_stop _ _ _ _))

-- the own bytes are put out, and what follows is left
record Opened (t : ℕ) (c : value-In_ok-e t) : Type 0 where
  from : c.args.c.at + 1 ≤ c.in_ok-e.e.at
  fits : c.in_ok-e.e.at ≤ length c.args.image.now
  small : c.in_ok-e.n ≤ c.args.count + longest
  same : let a = c.args in
      let i = a.image.now in
      let x = a.text.now in
      pour (value_of a.left i x a.c.at) a.count a.out.now ≡ pour (rest_of (value_of (a.left - 1) i x) i x c.in_ok-e.f c.in_ok-e.e.at) c.in_ok-e.n c.own.new.out

value_begun : (t : ℕ) (c : value-In_ok-e t) → Opened t c
value_begun t c =
    let a = c.args in
    let i = a.image.now in
    let x = a.text.now in
    let o : Owned (begun_to c.in_ok-e.e c.in_ok-e.n c.in_ok-e.f) c.own.new.out (record_at i a.c.at) x a.c.at a.count a.out.now = c.in_ok-e.ensures in
    let p = past i (λ n. (c.type_inv.image n).fits) a.c.at {r = o.2.0} o.2.1 in
    record {
      from = p.from;
      fits = p.fits;
      small = o.1;
      same = rw (value_opened i x a.c.at a.left c.if-left-eq0.false) (o.0 (rest_of (value_of (a.left - 1) i x) i x));
    }

pub value-returns-in-Nothing : goal.value-returns-in-Nothing
value-returns-in-Nothing t c = let k = value_begun t (goal.at.value-returns-in-Nothing t c).In_ok-e in record { out_after = rw (k.same, c.in-Nothing.is, rest_nothing _ _ _ _) (sym (pour_end _ _ _)); ahead = ahead_next k.from k.fits (omega (arith, k.small)) }

pub value-values-requires : goal.value-values-requires
value-values-requires t c =
    let k = value_begun t (goal.at.value-values-requires t c).In_ok-e in
    (omega (arith, c.decreases), (c.requires.0, c.requires.1, k.fits, omega (arith, k.small, k.from, c.requires)))

pub value-returns-in_err-e-clause-out_after : goal.value-returns-in_err-e-clause-out_after
value-returns-in_err-e-clause-out_after t c =
    let a = c.args in
    let i = a.image.now in
    let x = a.text.now in
    let p = err_from_is_err_and c.from_residual.result c.from_residual.ensures.1 in
    rw (p.1, p.2, value_opened i x a.c.at a.left c.if-left-eq0.false, c.in_err-e.ensures (rest_of (value_of (a.left - 1) i x) i x))

pub value-returns : goal.value-returns
value-returns t c = let k = value_begun t (goal.at.value-returns t c).In_ok-e in record { out_after = rw k.same c.values.ensures.out_after; ahead = ahead c.values.ensures.ahead (omega (arith, k.from)) (le_refl _) (omega (arith, k.small)) }

-- ---- the values that follow
pub values-loop-due-init : goal.values-loop-due-init
values-loop-due-init t c =
    let a = c.args in
    let p = c.requires in
    let i = a.image.now in
    let k = coming_first (value_of a.left i a.text.now) i a.text.now a.rest a.start.at in
    record {
      behind = 0;
      left = omega arith;
      from = omega arith;
      fits = p.2;
      grown = omega arith;
      kept = refl;
      keys = omega arith;
      fuel = k.fuel;
      enough = k.enough;
      same = rw k.same;
    }

-- what is due, and what is still to come
record Due (t : ℕ) (c : values-After-due_at-due t) (y : Rest) : Type 0 where
  left : owed c.loop-due.due ≡ owed y
  fuel : ℕ
  enough : Enough (value_of c.args.left c.args.image.now c.args.text.now) c.args.image.now c.args.text.now y fuel c.loop-due.c.at
  same : let a = c.args in
      let i = a.image.now in
      let x = a.text.now in
      let l = c.loop-due in
      let inner = value_of a.left i x in
      pour (rest_of inner i x a.rest a.start.at) a.done a.out.now ≡ pour (coming inner i x y fuel l.k l.c.at) l.count l.out

values_due : (t : ℕ) (c : values-After-due_at-due t) (y : Rest) → c.due_at-due.result ≡ y → Due t c y
values_due t c y e =
    let a = c.args in
    let i = a.image.now in
    let l = c.loop-due in
    let j = c.loop-due.invariant in
    let v = value_at i l.c.at in
    let z = sym c.due_at-due.ensures ∙ e in
    let k = rw z at (coming_due (value_of a.left i a.text.now) i a.text.now v l.due j.fuel l.k l.c.at refl j.fits j.enough) in
    record { left = sym (owed_due v l.due) ∙ ap owed z; fuel = k.fuel; enough = k.enough; same = j.same ∙ rw k.same }

pub values-returns-in-Nothing : goal.values-returns-in-Nothing
values-returns-in-Nothing t c =
    let l = c.loop-due in
    let d = values_due t (goal.at.values-returns-in-Nothing t c).After-due_at-due Nothing c.in-Nothing.is in
    let j = c.loop-due.invariant in record { out_after = rw d.same (sym (pour_end _ _ _)); ahead = ahead_next (omega (arith, d.left, j.left, j.from)) j.fits (omega (arith, d.left, j.left, j.grown)) }

pub values-returns-then-n-eq0 : goal.values-returns-then-n-eq0
values-returns-then-n-eq0 t c =
    let a = c.args in
    let i = a.image.now in
    let x = a.text.now in
    let l = c.loop-due in
    let n = c.in-Values.n in
    let d = values_due t (goal.at.values-returns-then-n-eq0 t c).After-due_at-due (Values n) c.in-Values.is in
    let j = c.loop-due.invariant in record { out_after = rw (d.same, items_done (value_of a.left i x) i x n l.c.at (omega (arith, c.if-n-eq0.true))) (sym (pour_end _ _ _)); ahead = ahead_next (omega (arith, d.left, j.left, j.from, c.if-n-eq0.true)) j.fits (omega (arith, d.left, j.left, j.grown, c.if-n-eq0.true)) }

pub values-returns-in_err-e-in-Pairs-clause-out_after : goal.values-returns-in_err-e-in-Pairs-clause-out_after
values-returns-in_err-e-in-Pairs-clause-out_after t c =
    let a = c.args in
    let i = a.image.now in
    let x = a.text.now in
    let inner = value_of a.left i x in
    let d = values_due t (goal.at.values-returns-in_err-e-in-Pairs-clause-out_after t c).After-due_at-due Pairs c.in-Pairs.is in
    let p = err_from_is_err_and c.from_residual.result c.from_residual.ensures.1 in
    rw (p.1, p.2, d.same, pairs_coming inner i x d.fuel c.loop-due.c.at d.enough, c.in_err-e-in-Pairs.ensures (λ q. inner q >>= pairsOf inner i x (d.fuel - 1)))

pub values-returns-in-End : goal.values-returns-in-End
values-returns-in-End t c =
    let a = c.args in
    let i = a.image.now in
    let x = a.text.now in
    let l = c.loop-due in
    let inner = value_of a.left i x in
    let d = values_due t (goal.at.values-returns-in-End t c).After-due_at-due Pairs c.in-Pairs.is in
    let o : Paired (end_to c.in-End.e c.in-End.n) c.pair.new.out (record_at i l.c.at) x l.c.at l.count l.out = rw c.in-End.is at c.in_ok-e-in-Pairs.ensures in
    let p = past i (λ n. (c.type_inv.image n).fits) l.c.at {r = o.2.0} o.2.1 in
    let j = c.loop-due.invariant in record { out_after = sym (rw (d.same, pairs_coming inner i x d.fuel l.c.at d.enough) (o.0 (λ q. inner q >>= pairsOf inner i x (d.fuel - 1)))); ahead = ahead_next (omega (arith, p.from, d.left, j.left, j.from)) p.fits (omega (arith, p.from, d.left, o.1, j.left, j.grown)) }

-- what stands before the value is put out, and the value and what follows it are left
record Ready (t : ℕ) (c : values-Joined-due t) : Type 0 where
  fuel : ℕ
  from : c.loop-due.c.at ≤ c.match-due.c.at
  fits : c.match-due.c.at ≤ length c.args.image.now
  small : c.match-due.count ≤ room c.match-due.c.at + 16
  kept : length c.match-due.out ≡ length c.args.out.now
  behind : ℕ
  left : behind + owed c.match-due.due ≡ owed c.args.rest
  grown : (g n : ℕ) → c.match-due.c.at + 1 ≤ g → n + growth * (c.match-due.c.at + 1) ≤ c.match-due.count + longest + growth * g
      → (c.args.start.at + behind ≤ g) × (n + growth * (c.args.start.at + behind) ≤ c.args.done + longest * behind + growth * g)
  enough : (g : ℕ) → c.match-due.c.at + 1 ≤ g → Enough (value_of c.args.left c.args.image.now c.args.text.now) c.args.image.now c.args.text.now c.match-due.due fuel g
  same : let a = c.args in
      let i = a.image.now in
      let x = a.text.now in
      let inner = value_of a.left i x in
      pour (rest_of inner i x a.rest a.start.at) a.done a.out.now
      ≡ pour (inner c.match-due.c.at >>= coming inner i x c.match-due.due fuel (c.loop-due.k + 1)) c.match-due.count c.match-due.out

values_ready : (t : ℕ) (c : values-Joined-due t) → Ready t c
values_ready t c =
    let a = c.args in
    let i = a.image.now in
    let x = a.text.now in
    let l = c.loop-due in
    let j = c.loop-due.invariant in
    let q = c.requires.3 in
    let inner = value_of a.left i x in
    elim c.match-due.branch [
      | values-in-Dense w ↦
          let d = values_due t (goal.at.values-Joined-due t c).After-due_at-due Dense w.in-Dense.is in
          let v = due_dense (value_at i l.c.at) l.due (sym c.due_at-due.ensures ∙ w.in-Dense.is) in
          let n = w.index-count.ensures.value.1 in
          let z = w.due-is ∙ w.in-Dense.is in
          record {
            fuel = d.fuel - 1;
            from = rw w.c-is (le_refl _);
            fits = rw w.c-is j.fits;
            small = rw (w.c-is, w.count-is) (omega (arith, n, j.grown, q));
            kept = ap length w.out-is ∙ w.index-count.auto.out ∙ j.kept;
            behind = j.behind;
            left = rw z (omega (arith, j.left, d.left));
            grown = λ g m h e. omega (arith, n, j.from, j.grown, h, e, w.count-is, ap (λ (y : Cursor). y.at) w.c-is);
            enough = λ g h. rw z (omega (arith, d.enough, j.fits, h, ap (λ (y : Cursor). y.at) w.c-is));
            same = rw (w.out-is, w.c-is, w.count-is, z) (d.same ∙ rw (dense_value i x l.c.at inner d.fuel l.k (omega (arith, d.enough, j.fits)) v) (pour_indexed l.k _ l.count l.out w.index-count.ensures.value.0 w.index-count.ensures.out_after));
          }
      | values-in-Values+else-n-eq0 w ↦
          let n = w.in-Values.n in
          let d = values_due t (goal.at.values-Joined-due t c).After-due_at-due (Values n) w.in-Values.is in
          record {
            fuel = d.fuel;
            from = rw w.c-is (le_refl _);
            fits = rw w.c-is j.fits;
            small = rw (w.c-is, w.count-is) (omega (arith, j.grown, q));
            kept = ap length w.out-is ∙ j.kept;
            behind = j.behind + 1;
            left = rw w.due-is (omega (arith, j.left, d.left, w.if-n-eq0.false));
            grown = λ g m h e. omega (arith, j.from, j.grown, h, e, w.count-is, ap (λ (y : Cursor). y.at) w.c-is);
            enough = λ g h. rw w.due-is (omega (arith, d.enough, h, ap (λ (y : Cursor). y.at) w.c-is));
            same = rw (w.out-is, w.c-is, w.count-is, w.due-is) (d.same ∙ rw (items_item inner i x n l.c.at (omega (arith, w.if-n-eq0.false))));
          }
      | values-in-Pairs+in_ok-e-in-Pairs+in-Key w ↦
          let d = values_due t (goal.at.values-Joined-due t c).After-due_at-due Pairs w.in-Pairs.is in
          let z = w.due-is ∙ w.in-Pairs.is in
          let o : Paired (key_to w.in-Key.e w.in-Key.n) w.pair.new.out (record_at i l.c.at) x l.c.at l.count l.out = rw w.in-Key.is at w.in_ok-e-in-Pairs.ensures in
          let p = past i (λ n. (c.type_inv.image n).fits) l.c.at {r = o.2.0} o.2.1 in
          record {
            fuel = d.fuel - 1;
            from = rw w.c-is (omega (arith, p.from));
            fits = rw w.c-is p.fits;
            small = rw (w.c-is, w.count-is) (omega (arith, p.from, o.1, j.grown, q));
            kept = ap length w.out-is ∙ w.pair.auto.out ∙ j.kept;
            behind = j.behind;
            left = rw z (omega (arith, j.left, d.left));
            grown = λ g m h e. omega (arith, p.from, o.1, j.from, j.grown, h, e, w.count-is, ap (λ (y : Cursor). y.at) w.c-is);
            enough = λ g h. rw z (omega (arith, d.enough, p.from, h, ap (λ (y : Cursor). y.at) w.c-is));
            same = rw (w.out-is, w.c-is, w.count-is, z) (d.same ∙ rw (pairs_coming inner i x d.fuel l.c.at d.enough) (o.0 (λ q. inner q >>= pairsOf inner i x (d.fuel - 1))));
          }
    ]

pub values-value-requires : goal.values-value-requires
values-value-requires t c =
    let k = values_ready t (goal.at.values-value-requires t c).Joined-due in
    (omega (arith, c.decreases), (c.requires.0, c.requires.1, k.fits, k.small))

pub values-returns-in_err-g-clause-out_after : goal.values-returns-in_err-g-clause-out_after
values-returns-in_err-g-clause-out_after t c =
    let a = c.args in
    let i = a.image.now in
    let x = a.text.now in
    let k = values_ready t (goal.at.values-returns-in_err-g-clause-out_after t c).Joined-due in
    let m = c.match-due in
    let inner = value_of a.left i x in
    let p = err_from_is_err_and c.from_residual-in_err-g.result c.from_residual-in_err-g.ensures.1 in
    rw (p.1, p.2) (sym (k.same ∙ pour_halt (inner m.c.at) (coming inner i x m.due k.fuel (c.loop-due.k + 1)) _ _ c.in_err-g.ensures.out_after))

pub values-loop-due-smaller : goal.values-loop-due-smaller
values-loop-due-smaller t c =
    let k = values_ready t (goal.at.values-loop-due-smaller t c).Joined-due in
    let b = c.in_ok-g.ensures.ahead.bounds c.in_ok-g.g c.in_ok-g.m refl in
    omega (arith, k.from, b)

pub values-loop-due-preserved : goal.values-loop-due-preserved
values-loop-due-preserved t c =
    let a = c.args in
    let i = a.image.now in
    let x = a.text.now in
    let k = values_ready t (goal.at.values-loop-due-preserved t c).Joined-due in
    let m = c.match-due in
    let inner = value_of a.left i x in
    let b = c.in_ok-g.ensures.ahead.bounds c.in_ok-g.g c.in_ok-g.m refl in
    let h = k.grown c.in_ok-g.g.at c.in_ok-g.m b.0 b.2 in
    record {
      behind = k.behind;
      left = k.left;
      from = h.0;
      fits = b.1;
      grown = h.1;
      kept = c.value.auto.out ∙ k.kept;
      keys = omega (arith, k.from, b, c.loop-due.invariant.keys);
      fuel = k.fuel;
      enough = k.enough c.in_ok-g.g.at b.0;
      same = k.same ∙ pour_then (inner m.c.at) (coming inner i x m.due k.fuel (c.loop-due.k + 1)) _ _ c.in_ok-g.ensures.out_after;
    }
