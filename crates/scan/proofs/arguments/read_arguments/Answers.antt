use mathlib.Core.Path.{refl}
use native.Mathlib.Omega.{arith}
use borrow.Author.Rules.{rules}
use Rattle.scan.proofs.MoveLaws.{none_yet, moves-is}
use Rattle.scan.proofs.arguments.read_arguments.Goals as goal

pub loop-s-init : goal.loop-s-init
loop-s-init c =
    let a = c.args in
    let z = none_yet a.text.now a.dones.now a.at refl (omega arith) (omega arith) (omega arith) in
    (omega arith, z.0, z.1, refl)

pub move_on-requires : goal.move_on-requires
move_on-requires c = c.loop-s.invariant.1

pub loop-s-smaller : goal.loop-s-smaller
loop-s-smaller c =
    let m = moves-is (c.move_on.ensures _ c.loop-s.invariant.2) c.in-Go.is in
    omega (arith, m.is.on, m.is.ready.place)

pub loop-s-preserved : goal.loop-s-preserved
loop-s-preserved c =
    let m = moves-is (c.move_on.ensures _ c.loop-s.invariant.2) c.in-Go.is in
    (omega (arith, m.is.on), m.is.ready, m.is.under, search rules)

pub returns-in-Closed : goal.returns-in-Closed
returns-in-Closed c =
    let m = moves-is (c.move_on.ensures _ c.loop-s.invariant.2) c.in-Closed.is in
    (omega (arith, m.is.0), m.is.1)

pub returns-in-Stop : goal.returns-in-Stop
returns-in-Stop c =
    (moves-is (c.move_on.ensures _ c.loop-s.invariant.2) c.in-Stop.is).is
