use mathlib.Core.Path.{refl, ap}
use native.Mathlib.Omega.{arith}
use Rattle.salvaging.specs.Answers.{salvage_told}
use Rattle.salvage.proofs.GiveLaws.{too_small, all-put}
use Rattle.salvage.proofs.save.Goals as goal

pub returns-then-need-gt0 : goal.returns-then-need-gt0
returns-then-need-gt0 c =
    let a = c.requires in
    too_small a.0 c.plan_of-laid.ensures c.report_of-report.ensures c.short_of-need.ensures (omega arith) (ap salvage_told c.turn.ensures)

pub returns : goal.returns
returns c =
    let a = c.requires in
    all-put a.0 c.plan_of-laid.ensures c.report_of-report.ensures c.short_of-need.ensures (omega arith) a.1 c.put_cells.ensures
    c.put_cells-2.ensures c.list_bad.ensures refl
