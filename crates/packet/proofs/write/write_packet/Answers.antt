-- The head, the headers, the count of messages and the messages, one behind the other.
use Rattle.std.specs.Prelude.{◌*◌, ◌≤◌, ◌≡◌}
use Rattle.std.proofs.lemmas.Result.{err_from_is_err_and}
use Rattle.wire.proofs.Kit.{refl, sym, ap, ◌∙◌, arith, length}
use Rattle.image.specs.Kind as kind
use Rattle.image.specs.Out.{Poured, pour}
use Rattle.image.proofs.Pouring.{pour_then, pour_halt, pour_stop, row_then, row_halt}
use Rattle.amf0.specs.Code.{longest, growth}
use Rattle.amf0.proofs.Putting.{Asked, asks, asked_bad}
use Rattle.packet.specs.Writing.{entries, packet}
use Rattle.packet.proofs.Putting.{carried, carried_stop, carried_from, went_on, halted, heading, counting, messages, contents, packing, packet_asked}
use Rattle.packet.proofs.write.write_packet.Goals.{After-layout_of-l, In_ok-e, In_ok-f}
use Rattle.packet.proofs.write.write_packet.Goals as goal

-- the head is put out, and the headers and the messages are left
-- how the record lies, and the packet from there on
shown : (c : After-layout_of-l) → let a = c.args in
    let i = a.image.now in
    Asked i kind.packet 0 (packing a.exact i a.text.now) c.layout_of-l.result c.in-Some.d.at
shown c =
    let a = c.args in
    let i = a.image.now in
    asks i kind.packet 0 (packing a.exact i a.text.now) (λ n. (c.type_inv.image n).fits) (sym c.record_at.ensures ∙ c.in-Some.is) c.layout_of-l.ensures

record Opened (c : In_ok-e) : Type 0 where
  from : 1 ≤ c.in_ok-e.e.at
  fits : c.in_ok-e.e.at ≤ length c.args.image.now
  most : c.in_ok-e.k ≤ longest
  same : let a = c.args in
      let i = a.image.now in
      let x = a.text.now in
      let l = c.layout_of-l.result in
      pour (packet a.exact i x) 0 a.out.now ≡ pour (contents a.exact i x l.a.number l.b.number c.in_ok-e.e.at) c.in_ok-e.k c.emit_numbers.new.out

opened : (c : In_ok-e) → Opened c
opened c =
    let a = c.args in
    let i = a.image.now in
    let x = a.text.now in
    let k = shown (goal.at.In_ok-e c).After-layout_of-l in
    let l = c.layout_of-l.result in
    let q = c.in-Some.d in
    let b = c.in_ok-e.ensures.grown.bounds c.in_ok-e.e c.in_ok-e.k refl in
    let f = k.from in
    let g = k.fits in
    record {
      from = omega arith;
      fits = omega arith;
      most = omega arith;
      same = rw (packet_asked a.exact i x, k.same c.if-l.false)
          (row_then x (heading l.a.number) 0 q.at 0 a.out.now (omega arith) (omega arith) (contents a.exact i x l.a.number l.b.number) (c.in_ok-e.ensures.by_index x 0));
    }

-- the headers are put out too
record Headed (c : In_ok-f) : Type 0 where
  fits : c.in_ok-f.f.at ≤ length c.args.image.now
  most : c.in_ok-f.n ≤ growth * c.in_ok-f.f.at
  same : let a = c.args in
      let i = a.image.now in
      let x = a.text.now in
      pour (packet a.exact i x) 0 a.out.now ≡ pour (messages a.exact i x c.layout_of-l.result.b.number c.in_ok-f.f.at) c.in_ok-f.n c.write_entries.new.out

headed : (c : In_ok-f) → Headed c
headed c =
    let a = c.args in
    let i = a.image.now in
    let x = a.text.now in
    let k = opened (goal.at.In_ok-f c).In_ok-e in
    let l = c.layout_of-l.result in
    let b = c.in_ok-f.ensures.ahead.bounds c.in_ok-f.f c.in_ok-f.n refl in
    let f = k.from in
    let m = k.most in
    record {
      fits = b.1;
      most = omega arith;
      same = k.same ∙ pour_then (entries kind.header a.exact i x l.a.number c.in_ok-e.e.at) (messages a.exact i x l.b.number) c.in_ok-e.k c.emit_numbers.new.out (went_on c.in_ok-f.ensures.carried);
    }

pub returns-then-l : goal.returns-then-l
returns-then-l c =
    let a = c.args in
    carried (rw (c.refuse-then-l.ensures, packet_asked a.exact a.image.now a.text.now, (shown (goal.at.returns-then-l c).After-layout_of-l).other c.if-l.true) (sym (pour_stop _ _ _ _)))

pub write_entries-requires : goal.write_entries-requires
write_entries-requires c =
    let p = c.requires in
    let k = opened (goal.at.write_entries-requires c).In_ok-e in
    let m = k.most in
    (p.0, p.1, k.fits, omega arith)

pub write_entries-requires-2 : goal.write_entries-requires-2
write_entries-requires-2 c =
    let p = c.requires in
    let k = headed (goal.at.write_entries-requires-2 c).In_ok-f in
    let b = c.in_ok-g.ensures.grown.bounds c.in_ok-g.g c.in_ok-g.t refl in
    let m = k.most in
    let f = k.fits in
    (p.0, p.1, omega arith, omega arith)

pub returns-in_default : goal.returns-in_default
returns-in_default c =
    let a = c.args in
    carried (rw (c.refuse.ensures, packet_asked a.exact a.image.now a.text.now, asked_bad a.image.now kind.packet 0 (packing a.exact a.image.now a.text.now) (sym c.record_at.ensures ∙ c.in_default.is)) (sym (pour_stop _ _ _ _)))

pub returns-in_err-e : goal.returns-in_err-e
returns-in_err-e c =
    let a = c.args in
    let i = a.image.now in
    let x = a.text.now in
    let l = c.layout_of-l.result in
    let q = c.in-Some.d in
    let p = err_from_is_err_and c.from_residual.result c.from_residual.ensures.1 in
    rw (p.1, p.2)
    (carried (rw (packet_asked a.exact i x, (shown (goal.at.returns-in_err-e c).After-layout_of-l).same c.if-l.false)
    (sym (row_halt x (heading l.a.number) 0 q.at 0 a.out.now (omega arith) (omega arith) (contents a.exact i x l.a.number l.b.number) (c.in_err-e.ensures.by_index x 0)))))

pub returns-in_err-f : goal.returns-in_err-f
returns-in_err-f c =
    let a = c.args in
    let i = a.image.now in
    let x = a.text.now in
    let l = c.layout_of-l.result in
    let p = err_from_is_err_and c.from_residual-in_err-f.result c.from_residual-in_err-f.ensures.1 in
    rw (p.1, p.2)
    (carried_stop (ap (λ (y : Poured). y.step)
    ((opened (goal.at.returns-in_err-f c).In_ok-e).same ∙ pour_halt (entries kind.header a.exact i x l.a.number c.in_ok-e.e.at) (messages a.exact i x l.b.number) c.in_ok-e.k c.emit_numbers.new.out (halted c.in_err-f.ensures.carried))))

pub returns-in_err-g : goal.returns-in_err-g
returns-in_err-g c =
    let a = c.args in
    let i = a.image.now in
    let x = a.text.now in
    let l = c.layout_of-l.result in
    let k = headed (goal.at.returns-in_err-g c).In_ok-f in
    let s = c.requires.1 in
    let m = k.most in
    let f = k.fits in
    let p = err_from_is_err_and c.from_residual-in_err-g.result c.from_residual-in_err-g.ensures.1 in
    rw (p.1, p.2)
    (carried (sym (k.same ∙ row_halt x (counting l.b.number) 0 c.in_ok-f.f.at c.in_ok-f.n c.write_entries.new.out (omega arith) (omega arith) (entries kind.message a.exact i x l.b.number) (c.in_err-g.ensures.by_index x 0))))

pub returns : goal.returns
returns c =
    let a = c.args in
    let i = a.image.now in
    let x = a.text.now in
    let l = c.layout_of-l.result in
    let k = headed (goal.at.returns c).In_ok-f in
    let s = c.requires.1 in
    let m = k.most in
    let f = k.fits in
    carried_from (k.same ∙ row_then x (counting l.b.number) 0 c.in_ok-f.f.at c.in_ok-f.n c.write_entries.new.out (omega arith) (omega arith) (entries kind.message a.exact i x l.b.number) (c.in_ok-g.ensures.by_index x 0))
    c.write_entries-2.ensures.carried
