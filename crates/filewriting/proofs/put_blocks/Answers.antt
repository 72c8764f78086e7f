use native.Mathlib.Omega.{arith}
use Rattle.octets.proofs.PutLaws.{put-part, put-ends, put-length}
use Rattle.blocks.proofs.PutLaws.{blocks-begin, blocks-next, blocks-none}
use Rattle.filewriting.proofs.put_blocks.Goals as goal

pub loop-i-init : goal.loop-i-init
loop-i-init c = blocks-begin _ _

pub loop-i-preserved : goal.loop-i-preserved
loop-i-preserved c =
    let a = c.args in
    put-part (rw (blocks-next a.count c.loop-i.i a.cells.now (omega arith)) at c.loop-i.invariant) c.put_block-on.ensures

pub shape_of-out : goal.shape_of-out
shape_of-out c = put-length c.loop-i.invariant.puts

pub returns : goal.returns
returns c =
    let a = c.args in
    put-ends (rw (blocks-none a.count c.loop-i.i a.cells.now (omega arith)) at c.loop-i.invariant)
