use Rattle.std.proofs.Common.{arith}
use Rattle.octets.proofs.PutLaws.{put-part, put-ends}
use Rattle.mendwords.proofs.NumberLaws.{others-on, others-done}
use Rattle.mendwords.proofs.put_others.Goals as goal

pub loop-n-preserved : goal.loop-n-preserved
loop-n-preserved c =
    let next = others-on c.args.numbers.now c.loop-n.n-index (omega arith) in
    put-part (rw next at c.loop-n.invariant) c.put_other-on.ensures

pub returns : goal.returns
returns c = put-ends (rw (others-done c.args.numbers.now c.loop-n.n-index (omega arith)) at c.loop-n.invariant)
