use Rattle.std.proofs.Common.{length, sym, ◌∙◌, ap, arith}
use Rattle.std.proofs.lemmas.Result.{err_from_is_err_and}
use Rattle.refusal.specs.Refusal.{turned}
use Rattle.table.specs.Table.{goal_says}
use Rattle.table.proofs.ReadLaws.{outside, within-bounds}
use Rattle.table.proofs.TableLaws.{goal-length, goal-turned, goal-extra, goal-whole}
use Rattle.table.proofs.goal_for.Goals as goal

pub returns-then-goal-lt1 : goal.returns-then-goal-lt1
returns-then-goal-lt1 c =
    ap turned c.refusal.ensures ∙ sym (ap (goal_says _) (goal-length _ _ (outside (length c.args.goal.now) 1 32 c.then-goal-lt1.either)))

pub returns-in_err-read : goal.returns-in_err-read
returns-in_err-read c =
    let p = err_from_is_err_and c.from_residual.result c.from_residual.ensures.1 in
    rw (p.1, p.2)
    (sym (ap (goal_says _) (goal-turned _ _ (within-bounds (length c.args.goal.now) 1 32 (omega arith) (omega arith)) (sym c.in_err-read.ensures.0))))

pub returns-then-cells_left-gt0 : goal.returns-then-cells_left-gt0
returns-then-cells_left-gt0 c =
    ap turned c.refusal-then-cells_left-gt0.ensures ∙ sym (ap (goal_says _)
    (goal-extra _ _ (within-bounds (length c.args.goal.now) 1 32 (omega arith) (omega arith)) (sym c.in_ok-read.ensures.0) (omega arith)))

pub returns : goal.returns
returns c =
    sym (ap (goal_says _)
    (goal-whole _ _ (within-bounds (length c.args.goal.now) 1 32 (omega arith) (omega arith)) (sym c.in_ok-read.ensures.0) (omega arith)))
