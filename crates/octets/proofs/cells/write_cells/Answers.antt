use native.Mathlib.Omega.{arith}
use Rattle.octets.proofs.PutLaws.{put-begins, put-part, put-ends}
use Rattle.octets.proofs.BytesLaws.{bytes_next, bytes-end}
use Rattle.octets.proofs.cells.write_cells.Goals as goal

pub loop-cell-init : goal.loop-cell-init
loop-cell-init c = put-begins

pub loop-cell-preserved : goal.loop-cell-preserved
loop-cell-preserved c =
    let l = c.loop-cell in
    put-part (rw (bytes_next c.args.cells.now l.cell-index (omega arith)) at l.invariant) c.write_cell-on.ensures

pub returns : goal.returns
returns c =
    let l = c.loop-cell in
    put-ends (rw (bytes-end c.args.cells.now l.cell-index (omega arith)) at l.invariant)
