use Rattle.std.proofs.Common.{rules, arith}
use Rattle.salvage.proofs.PlanSaid.{own-laid, new-laid, never-refused}
use Rattle.salvage.proofs.plan_of.Goals as goal

pub overflow_add-end : goal.overflow_add-end
overflow_add-end c = omega (arith, c.requires.0.narrow)

pub returns-then-own_plan : goal.returns-then-own_plan
returns-then-own_plan c = own-laid c.requires.0 c.own_plan.ensures c.if-own_plan.true

pub returns-in-Ok : goal.returns-in-Ok
returns-in-Ok c =
    let a = c.requires in
    new-laid a.0 c.own_plan.ensures c.if-own_plan.false a.1 (search rules) c.build_plan.ensures c.in-Ok.is

pub returns-in-Err : goal.returns-in-Err
returns-in-Err c =
    let a = c.requires in
    never-refused a.0 c.own_plan.ensures c.if-own_plan.false a.1 (search rules) c.build_plan.ensures c.in-Err.is
