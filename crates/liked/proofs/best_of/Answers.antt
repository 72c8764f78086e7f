use Rattle.std.proofs.Common.{arith}
use Rattle.liked.proofs.SearchLaws.{best-plain, best-all, sets-few}
use Rattle.liked.proofs.best_of.Goals as goal

pub loop-mask-init : goal.loop-mask-init
loop-mask-init c =
    let p = c.requires in
    let few = sets-few p in
    (omega arith, omega (arith, few.0), few.1, best-plain p.tries)

pub loop-mask-preserved : goal.loop-mask-preserved
loop-mask-preserved c =
    let v = c.loop-mask.invariant in
    (omega arith, omega arith, v.2, c.better-best.ensures _ _ _ _ v.3 c.total_for.ensures)

pub returns : goal.returns
returns c = let v = c.loop-mask.invariant in best-all c.requires (omega arith) v.3 (omega arith)
