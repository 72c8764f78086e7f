use native.Mathlib.Omega.{arith}
use Rattle.salvage.proofs.RowsLaws.{few-blocks}
use Rattle.salvage.proofs.PlanSaid.{rows_dropped, plan-cut-off, plan-turned, plan-passed}
use Rattle.salvage.proofs.own_plan.Goals as goal

pub overflow_mul-n : goal.overflow_mul-n
overflow_mul-n c = omega (arith, few-blocks c.args.file.now _ c.sound_run-n.ensures.many (omega arith))

pub returns-then-top : goal.returns-then-top
returns-then-top c = rows_dropped c.requires.0 (λ e. omega (arith, e))

pub returns-then-n-skip : goal.returns-then-n-skip
returns-then-n-skip c =
    plan-cut-off c.requires.0 c.if-top.false c.requires.2 c.sound_run-n.ensures (omega arith)

pub returns-in-Ok : goal.returns-in-Ok
returns-in-Ok c =
    plan-passed c.requires.0 c.if-top.false c.requires.2 c.sound_run-n.ensures (omega arith) c.min.ensures c.requires.1
    c.check_plan.ensures c.in-Ok.is

pub returns-in-Err : goal.returns-in-Err
returns-in-Err c =
    plan-turned c.requires.0 c.if-top.false c.requires.2 c.sound_run-n.ensures (omega arith) c.min.ensures c.requires.1
    c.check_plan.ensures c.in-Err.is
