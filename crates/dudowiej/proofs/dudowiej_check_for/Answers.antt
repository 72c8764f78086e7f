use Rattle.dudowiej.proofs.CodeLaws.{coded_by, plan-by}
use mathlib.Core.Path.{◌∙◌, ap}
use mathlib.Core.List.{List}
use Prim.Native.Nat.{ℕ}
use Rattle.refusal.specs.Coded.{coded}
use Rattle.refusal.proofs.CodedLaws.{small_by}
use Rattle.plan.specs.Check.{plan_under}
use Rattle.checker.specs.Checked.{plan_says}
use Rattle.dudowiej.proofs.Small.{under-small}
use Rattle.dudowiej.proofs.dudowiej_check_for.Goals as goal

pub returns : goal.returns
returns c =
    let a = c.args in
    let p = a.plan.now in
    let columns = a.columns.now in
    let s = small_by c.check_for.ensures (under-small c.table_of-cells.result.now columns p) in
    coded_by (plan-by c.check_for.result) s c.as_number.ensures ∙ ap coded (c.check_for.ensures ∙ ap (λ (cells : List ℕ). plan_says (plan_under cells columns p)) c.table_of-cells.ensures)
