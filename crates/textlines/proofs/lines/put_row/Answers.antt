use native.Mathlib.Omega.{arith}
use Rattle.octets.proofs.PutLaws.{put-begins, put-part, put-ends, put-length}
use Rattle.textlines.proofs.LineLaws.{row_on, row_done}
use Rattle.textlines.proofs.lines.put_row.Goals as goal

pub loop-i-init : goal.loop-i-init
loop-i-init c = (omega arith, put-begins)

pub loop-i-preserved : goal.loop-i-preserved
loop-i-preserved c =
    let l = c.loop-i in
    let next = row_on c.args.row.now l.i (omega arith) in
    let here = put-part (rw next at l.invariant.1) c.put_symbol-p.ensures in
    (omega arith, put-part here (rw c.mark.ensures at c.put_byte-on.ensures))

pub shape_of-out : goal.shape_of-out
shape_of-out c = put-length c.loop-i.invariant.1.puts

pub returns : goal.returns
returns c =
    let row = c.args.row.now in
    put-ends (rw (row_done row c.loop-i.i (omega arith)) at c.loop-i.invariant.1)
