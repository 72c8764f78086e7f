use native.Mathlib.Omega.{arith}
use Rattle.handing.proofs.WalkLaws.{room-here}
use Rattle.handing.proofs.measure.clause_end.Goals as goal

pub bounds-program-at : goal.bounds-program-at
bounds-program-at c = omega (arith, room-here c.args.program.now c.args.at c.requires)

pub returns : goal.returns
returns c =
    (omega arith, omega arith, omega (arith, room-here c.args.program.now c.args.at c.requires))
