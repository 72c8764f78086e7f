use Rattle.std.proofs.Common.{ap, ◌∙◌}
use Rattle.plan.proofs.ColumnsLaws.{plain-under}
use Rattle.checker.specs.Checked.{plan_says}
use Rattle.checker.proofs.check_plan.Goals as goal

pub returns : goal.returns
returns c = c.check_for.ensures ∙ ap plan_says (plain-under _ _)
