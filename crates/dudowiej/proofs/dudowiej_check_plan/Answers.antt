use Rattle.dudowiej.proofs.CodeLaws.{coded_by, plan-by}
use mathlib.Core.Path.{◌∙◌, ap}
use mathlib.Core.List.{List}
use Prim.Native.Nat.{ℕ}
use Rattle.refusal.specs.Coded.{coded}
use Rattle.refusal.proofs.CodedLaws.{small_by}
use Rattle.plan.specs.Check.{plan_of}
use Rattle.checker.specs.Checked.{plan_says}
use Rattle.dudowiej.proofs.Small.{plan-small}
use Rattle.dudowiej.proofs.dudowiej_check_plan.Goals as goal

pub returns : goal.returns
returns c =
    let p = c.args.plan.now in
    let s = small_by c.check_plan.ensures (plan-small _ _) in
    coded_by (plan-by c.check_plan.result) s c.as_number.ensures ∙ ap coded (c.check_plan.ensures ∙ ap (λ (cells : List ℕ). plan_says (plan_of cells p)) c.table_of-cells.ensures)
