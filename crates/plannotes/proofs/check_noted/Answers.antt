use Rattle.std.proofs.Common.{arith, rules}
use Rattle.checker.proofs.Accepts.{check-accepts}
use Rattle.plannotes.proofs.EntryLaws.{two_cells, accepted-plan, handed-on, turned-away}
use Rattle.plannotes.proofs.check_noted.Goals as goal

pub bounds-table-0 : goal.bounds-table-0
bounds-table-0 c = omega (arith, two_cells ((check-accepts _ _ _ c.check_plan.ensures).0 c.in-Ok.is))

pub bounds-table-1 : goal.bounds-table-1
bounds-table-1 c = omega (arith, two_cells ((check-accepts _ _ _ c.check_plan.ensures).0 c.in-Ok.is))

pub note_plan-requires : goal.note_plan-requires
note_plan-requires c = accepted-plan ((check-accepts _ _ _ c.check_plan.ensures).0 c.in-Ok.is) (search rules)

pub returns-in-Ok : goal.returns-in-Ok
returns-in-Ok c = handed-on ((check-accepts _ _ _ c.check_plan.ensures).0 c.in-Ok.is) (search rules) c.note_plan.ensures

pub returns-in-Err : goal.returns-in-Err
returns-in-Err c = turned-away _ _ _ c.check_plan.ensures c.in-Err.is
