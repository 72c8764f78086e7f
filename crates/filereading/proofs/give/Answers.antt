use mathlib.Core.Path.{refl, ap}
use native.Mathlib.Omega.{arith}
use Rattle.std.proofs.lemmas.Result.{err_from_is_err_and}
use Rattle.plan.specs.Check.{plan_of}
use Rattle.checker.proofs.SaidLaws.{said_read, said-refused}
use Rattle.filing.specs.Answers.{contents_told}
use Rattle.filing.proofs.GiveLaws.{cut_table, cut_plan, give-refused, give-ready, give-no-table, give-no-plan, give-both}
use Rattle.filereading.proofs.give.Goals as goal

pub returns-then-table-tables : goal.returns-then-table-tables
returns-then-table-tables c =
    λ file z. give-no-table (give-ready file c.args.cells.now c.args.tables c.args.plans c.min-m.result c.min.result z c.min-m.ensures c.min.ensures _
    (said_read (plan_of (cut_table c.args.cells.now c.min-m.result) (cut_plan c.args.cells.now c.min-m.result c.min.result)) c.check_plan.ensures c.in_ok-check_plan.was)) (omega arith) (ap contents_told c.turn.ensures)

pub returns-then-plan-plans : goal.returns-then-plan-plans
returns-then-plan-plans c =
    λ file z. give-no-plan (give-ready file c.args.cells.now c.args.tables c.args.plans c.min-m.result c.min.result z c.min-m.ensures c.min.ensures _
    (said_read (plan_of (cut_table c.args.cells.now c.min-m.result) (cut_plan c.args.cells.now c.min-m.result c.min.result)) c.check_plan.ensures c.in_ok-check_plan.was)) (omega arith) (omega arith) (ap contents_told c.turn-then-plan-plans.ensures)

pub returns : goal.returns
returns c =
    λ file z.
    give-both (give-ready file c.args.cells.now c.args.tables c.args.plans c.min-m.result c.min.result z c.min-m.ensures c.min.ensures _
    (said_read (plan_of (cut_table c.args.cells.now c.min-m.result) (cut_plan c.args.cells.now c.min-m.result c.min.result)) c.check_plan.ensures c.in_ok-check_plan.was)) (omega arith) (omega arith) c.put_cells.ensures
    c.put_cells-2.ensures refl

pub returns-in_err-check_plan : goal.returns-in_err-check_plan
returns-in_err-check_plan c =
    let p = err_from_is_err_and c.from_residual.result c.from_residual.ensures.1 in
    λ file z. rw (p.1, p.2)
    (give-refused file c.args.cells.now c.args.tables c.args.plans c.min-m.result c.min.result z c.min-m.ensures c.min.ensures _
    (said-refused (plan_of (cut_table c.args.cells.now c.min-m.result) (cut_plan c.args.cells.now c.min-m.result c.min.result)) c.check_plan.ensures c.in_err-check_plan.was) refl)
