-- `parse_packet` meets its contract: the packet's record is laid with no count of messages, and has it where the messages are read.
use Rattle.std.specs.Prelude.{◌≤◌, ◌≡◌, Ok}
use Rattle.std.proofs.lemmas.Result.{err_from_is_err_and}
use Rattle.wire.proofs.Kit.{ℕ, refl, sym, ◌∙◌, le_refl, arith, length}
use Rattle.image.specs.declared.record.Record.TheVariants.{Packet}
use Rattle.image.specs.Record.{bytes_of}
use Rattle.image.specs.Due.{Due, due, end, ◌>>=◌, run}
use Rattle.image.specs.Whole.{bytes as whole_bytes}
use Rattle.image.proofs.Laws.{run_then, run_halt, within}
use Rattle.packet.specs.Reading.{entries_at}
use Rattle.packet.proofs.Laws.{Fronted, front_told}
use Rattle.packet.proofs.Packing.{messages_at, uncounted, run_next, packed_none, packed_stop, packed_messages}
use Rattle.packet.proofs.read.parse_packet.Goals.{In_ok-h, In_ok-e}
use Rattle.packet.proofs.read.parse_packet.Goals as goal

opened : (c : In_ok-h) → Fronted c.args.s.now (Ok (c.in_ok-h.h, c.in_ok-h.d))
opened c = rw (sym c.in_ok-h.ensures) at (front_told c.args.s.now)

-- the record with no count of messages, and the headers from a place on
abbrev bare : In_ok-h → Due
bare c = due (Packet c.in_ok-h.h 0) 0 (end c.in_ok-h.d.at)

abbrev headers : In_ok-h → ℕ → Due
headers c at = entries_at 0x31 c.args.s.now c.in_ok-h.h at

-- the packet's record is laid, and the headers are left to read
record Begun (c : In_ok-e) : Type 0 where
  place : c.in_ok-e.e.at ≡ c.in_ok-h.d.at
  within : c.in_ok-e.e.at ≤ length c.args.s.now
  made : c.in_ok-e.made ≡ 5
  room : c.in_ok-e.made ≤ length c.put.new.image
  same : let s = c.args.s.now in
      run (uncounted s c.in_ok-h.h c.in_ok-h.d.at) 0 c.args.image.now
      ≡ run (headers (goal.at.In_ok-e c).In_ok-h c.in_ok-e.e.at >>= messages_at s) c.in_ok-e.made c.put.new.image

begun : (c : In_ok-e) → Begun c
unfolding whole_bytes bytes_of
begun c =
    let s = c.args.s.now in
    let g = (goal.at.In_ok-e c).In_ok-h in
    let r = opened g in
    let b = c.in_ok-e.ensures.within.bounds c.in_ok-e.e c.in_ok-e.made refl in
    let p = c.in_ok-e.ensures.image_after in
    let n = run_next (bare g) 0 c.args.image.now p in
    let m = c.put.auto.image in
    record {
      place = omega arith;
      within = omega (arith, r.1, r.2);
      made = omega (arith, n.0);
      room = omega arith;
      same = run_then (bare g) (λ v. headers g v >>= messages_at s) _ _ p;
    }

pub parse_entries-requires : goal.parse_entries-requires
parse_entries-requires c = let b = begun (goal.at.parse_entries-requires c).In_ok-e in ((opened (goal.at.parse_entries-requires c).In_ok-h).0, b.within, b.room)

pub parse_messages-requires : goal.parse_messages-requires
parse_messages-requires c =
    let g = (goal.at.parse_messages-requires c).In_ok-h in
    let b = begun (goal.at.parse_messages-requires c).In_ok-e in
    let n = run_next (headers g c.in_ok-e.e.at) c.in_ok-e.made c.put.new.image c.in_ok-f.ensures.image_after in
    let w = c.in_ok-f.ensures.within.bounds c.in_ok-f.f c.in_ok-f.total refl in
    let k = c.parse_entries.auto.image in
    ((opened g).0, w.1, omega arith, omega (arith, n.0, b.made))

pub returns-in_err-h-clause-packed : goal.returns-in_err-h-clause-packed
returns-in_err-h-clause-packed c =
    let p = err_from_is_err_and c.from_residual.result c.from_residual.ensures.1 in
    rw (p.1, p.2) (packed_none _ _ (sym c.in_err-h.ensures))

pub returns-in_err-e-clause-packed : goal.returns-in_err-e-clause-packed
returns-in_err-e-clause-packed c =
    let a = c.args in
    let g = (goal.at.returns-in_err-e-clause-packed c).In_ok-h in
    let p = err_from_is_err_and c.from_residual-in_err-e.result c.from_residual-in_err-e.ensures.1 in
    rw (p.1, p.2)
    (packed_stop a.s.now a.image.now (sym c.in_ok-h.ensures) (run_halt (bare g) (λ v. headers g v >>= messages_at a.s.now) _ _ c.in_err-e.ensures.image_after))

pub returns-in_err-f-clause-packed : goal.returns-in_err-f-clause-packed
returns-in_err-f-clause-packed c =
    let a = c.args in
    let g = (goal.at.returns-in_err-f-clause-packed c).In_ok-h in
    let b = begun (goal.at.returns-in_err-f-clause-packed c).In_ok-e in
    let h = run_halt (headers g c.in_ok-e.e.at) (messages_at a.s.now) _ _ c.in_err-f.ensures.image_after in
    let p = err_from_is_err_and c.from_residual-in_err-f.result c.from_residual-in_err-f.ensures.1 in
    rw (p.1, p.2) (packed_stop a.s.now a.image.now (sym c.in_ok-h.ensures) (b.same ∙ h))

pub returns : goal.returns
returns c =
    let a = c.args in
    let s = a.s.now in
    let b = begun (goal.at.returns c).In_ok-e in
    let d = headers (goal.at.returns c).In_ok-h c.in_ok-e.e.at in
    let r = c.in_ok-f.ensures.image_after in
    let n = run_next d c.in_ok-e.made c.put.new.image r in
    let j = c.parse_entries.new.image in
    let k = c.parse_entries.auto.image in
    let m = c.put.auto.image in
    let g : 5 ≤ c.in_ok-f.total = omega (arith, n.0, b.made) in
    let t = run_then d (messages_at s) _ _ r in
    record {
      packed = packed_messages s a.image.now (sym c.in_ok-h.ensures) c.in_ok-f.f.at c.in_ok-f.total j g (rw b.place at n.1) (b.same ∙ t) c.parse_messages.ensures.image_after;
      within = within c.parse_messages.ensures.within (omega arith) (le_refl _) (omega arith);
    }
