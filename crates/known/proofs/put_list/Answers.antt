use Rattle.std.proofs.Common.{arith}
use Rattle.octets.proofs.PutLaws.{put-part, put-ends}
use Rattle.known.proofs.ListLaws.{list-next, list-end}
use Rattle.known.proofs.put_list.Goals as goal

pub loop-before-preserved : goal.loop-before-preserved
loop-before-preserved c =
    let l = c.loop-before in
    put-part (rw (list-next c.args.columns.now l.before (omega arith)) at l.invariant) c.put_next-on.ensures

pub returns : goal.returns
returns c =
    let l = c.loop-before in
    put-ends (rw (list-end c.args.columns.now l.before (omega arith)) at l.invariant)
