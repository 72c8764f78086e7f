use Rattle.std.proofs.Common.{arith}
use Rattle.liked.proofs.ColumnLaws.{filled_none, filled_in, left_out, listed}
use Rattle.liked.proofs.columns_of.Goals as goal
use Rattle.liked.proofs.columns_of.Goals.{then-mask-c-eq1, else-mask-c-eq1}

pub loop-c-init : goal.loop-c-init
loop-c-init c = filled_none c.args.mask

pub loop-c-preserved : goal.loop-c-preserved
loop-c-preserved c =
    let l = c.loop-c in
    elim c.if-mask-c-eq1.branch [
      | then-mask-c-eq1 w ↦ rw (w.list-is, w.count-is) (filled_in l.invariant (omega arith) w.if-mask-c-eq1.true)
      | else-mask-c-eq1 w ↦ rw (w.list-is, w.count-is) (left_out l.invariant (omega arith) w.if-mask-c-eq1.false)
    ]

pub returns : goal.returns
returns c = listed c.loop-c.invariant (omega arith)
