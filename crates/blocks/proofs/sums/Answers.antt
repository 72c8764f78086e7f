use Rattle.std.proofs.Common.{refl, arith}
use Rattle.blocks.proofs.SumsLaws.{sums-begin, sums_next, sums-end}
use Rattle.blocks.proofs.sums.Goals as goal

pub loop-c-init : goal.loop-c-init
loop-c-init c = sums-begin _ _ _ _ (omega arith) (omega arith)

pub loop-c-preserved : goal.loop-c-preserved
loop-c-preserved c =
    let l = c.loop-c in
    sums_next _ _ _ _ l.c-index _ _ l.invariant (omega arith) refl refl

pub returns : goal.returns
returns c =
    let l = c.loop-c in
    sums-end _ _ _ _ l.c-index l.invariant (omega arith)
