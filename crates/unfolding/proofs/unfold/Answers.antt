use Rattle.std.proofs.lemmas.Result.{err_from_is_err_and}
use Rattle.checker.proofs.Accepts.{check-accepts}
use Rattle.unfolding.proofs.EntryLaws.{width_read, first-state, made-whole, turned-away}
use Rattle.unfolding.proofs.unfold.Goals as goal

pub bounds-table-0 : goal.bounds-table-0
bounds-table-0 c = (width_read ((check-accepts _ _ _ c.check_plan.ensures).0 c.in_ok-check_plan.was)).0

pub make-requires : goal.make-requires
make-requires c = let x = (check-accepts _ _ _ c.check_plan.ensures).0 c.in_ok-check_plan.was in (first-state x, (width_read x).2)

pub returns-in_err-check_plan : goal.returns-in_err-check_plan
returns-in_err-check_plan c =
    let p = err_from_is_err_and c.from_residual.result c.from_residual.ensures.1 in
    rw (p.1, p.2) (turned-away _ _ _ c.check_plan.ensures c.in_err-check_plan.was)

pub returns : goal.returns
returns c = made-whole ((check-accepts _ _ _ c.check_plan.ensures).0 c.in_ok-check_plan.was) c.make.ensures
