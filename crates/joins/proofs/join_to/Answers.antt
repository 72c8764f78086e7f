-- `join_to` (src/lib.rt): 64 bytes, one after another; compiled to some 40 vector instructions.
use Rattle.std.proofs.Common.{arith}
use Rattle.classes.proofs.ArrayLaws.{moving-first, moving-next, moving-last}
use Rattle.joins.proofs.join_to.Goals as goal

pub loop-z-init : goal.loop-z-init
loop-z-init c = moving-first c.args.rep.now c.args.x c.args.y

pub loop-z-preserved : goal.loop-z-preserved
loop-z-preserved c =
    let l = c.loop-z in
    let a = c.args in
    λ h. rw c.moved.ensures (moving-next a.rep.now l.rep a.x a.y l.z-index (l.invariant h) (omega arith))

pub returns : goal.returns
returns c =
    let l = c.loop-z in
    let a = c.args in
    λ h. moving-last a.rep.now l.rep a.x a.y l.z-index (l.invariant h) (omega arith)
