-- Each arm's record has what its calls hold of the numbers; the match says which kind it is.
use Rattle.wire.proofs.Kit.{arith}
use Rattle.image.specs.Building.{holder_of}
use Rattle.image.proofs.Told.{all_held}
use Rattle.std.proofs.Common.{rules, tests}
use Rattle.image.proofs.building.holder_of.Goals as goal

pub returns-in-0 : goal.returns-in-0
unfolding holder_of
returns-in-0 c = rw (c.in-0.is, all_held c.args.a (omega arith))

pub returns-in-1 : goal.returns-in-1
unfolding holder_of
returns-in-1 c = rw c.in-1.is

pub returns-in-2 : goal.returns-in-2
unfolding holder_of
returns-in-2 c = rw (c.in-2.is, c.low24.ensures, c.low24-in-2.ensures)

pub returns-in-3 : goal.returns-in-3
unfolding holder_of
returns-in-3 c = rw c.in-3.is

pub returns-in-5 : goal.returns-in-5
unfolding holder_of
returns-in-5 c = rw c.in-5.is

pub returns-in-6 : goal.returns-in-6
unfolding holder_of
returns-in-6 c = rw c.in-6.is

pub returns-in-7 : goal.returns-in-7
unfolding holder_of
returns-in-7 c = rw (c.in-7.is, c.low16.ensures)

pub returns-in-8 : goal.returns-in-8
unfolding holder_of
returns-in-8 c = rw (c.in-8.is, c.low32.ensures)

pub returns-in-9 : goal.returns-in-9
unfolding holder_of
returns-in-9 c = rw c.in-9.is

pub returns-in-10 : goal.returns-in-10
unfolding holder_of
returns-in-10 c = rw (c.in-10.is, c.low32-in-10.ensures)

pub returns-in-11 : goal.returns-in-11
unfolding holder_of
returns-in-11 c = rw (c.in-11.is, all_held c.args.a (omega arith), c.zone_of.ensures)

pub returns-in-13 : goal.returns-in-13
unfolding holder_of
returns-in-13 c = rw c.in-13.is

pub returns-in-15 : goal.returns-in-15
unfolding holder_of
returns-in-15 c = rw (c.in-15.is, c.low24-in-15.ensures, c.low24-in-15-2.ensures)

pub returns-in-16 : goal.returns-in-16
unfolding holder_of
returns-in-16 c = rw (c.in-16.is, c.low24-in-16.ensures, c.low16-in-16.ensures)

pub returns-in-32 : goal.returns-in-32
unfolding holder_of
returns-in-32 c = rw (c.in-32.is, c.low24-in-32.ensures, c.low16-in-32.ensures)

pub returns-in-48 : goal.returns-in-48
unfolding holder_of
returns-in-48 c = rw (c.in-48.is, c.low16-in-48.ensures, c.low16-in-48-2.ensures)

pub returns-in-49 : goal.returns-in-49
unfolding holder_of
returns-in-49 c = rw (c.in-49.is, c.low24-in-49.ensures, c.low16-in-49.ensures)

pub returns-in-50 : goal.returns-in-50
unfolding holder_of
returns-in-50 c = rw (c.in-50.is, c.low24-in-50.ensures, c.low16-in-50.ensures, c.low24-in-50-2.ensures, c.low16-in-50-2.ensures)

pub returns-in-51 : goal.returns-in-51
unfolding holder_of
returns-in-51 c = rw (c.in-51.is, c.low32-in-51.ensures, c.low24-in-51.ensures, c.low16-in-51.ensures)

pub returns-in_default : goal.returns-in_default
unfolding holder_of
returns-in_default c = search (tests, rules)
