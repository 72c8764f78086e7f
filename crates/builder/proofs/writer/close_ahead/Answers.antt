use Rattle.std.proofs.Common.{arith}
use Rattle.builder.proofs.ClosingLaws.{closing-row, closing-next, closing-done}
use Rattle.builder.proofs.writer.close_ahead.Goals as goal

pub close_row-closed-requires : goal.close_row-closed-requires
close_row-closed-requires c =
    let q = c.requires in
    closing-row q (c.loop-row.invariant q) (omega arith)

pub loop-row-preserved : goal.loop-row-preserved
loop-row-preserved c =
    λ q. let l = c.loop-row in
    let r = closing-row q (l.invariant q) (omega arith) in
    closing-next q (l.invariant q) (omega arith) _ _ (c.close_row-closed.ensures r)

pub returns : goal.returns
returns c = λ q. closing-done q (c.loop-row.invariant q) (omega arith)
