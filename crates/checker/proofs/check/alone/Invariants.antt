use Rattle.std.proofs.Common.{length, drop}
use Rattle.state.specs.Mask.{kept}
use Rattle.checker.proofs.AloneLaws.{Chain}
use Rattle.checker.proofs.check.alone.Given as goal

abbrev pub invariant-loop-owed : goal.invariant-loop-owed
invariant-loop-owed l =
    Chain l.fn.table l.fn.start l.fn.mask l.fn.plan l.fn.k l.fn.at l.left l.owed l.place l.count

abbrev pub decreases-loop-owed : goal.decreases-loop-owed
decreases-loop-owed l = length (kept l.left (drop l.start l.table))
