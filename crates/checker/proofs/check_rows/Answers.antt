use Rattle.std.proofs.Common.{arith, refl}
use Rattle.std.proofs.lemmas.Result.{err_from_is_err_and}
use Rattle.checker.proofs.EntryLaws.{entry-size, ready-first, entry-refused, entry-extra, entry-accepted}
use Rattle.checker.proofs.check_rows.Goals as goal

pub returns-then-plan-gt-PLAN_CELLS : goal.returns-then-plan-gt-PLAN_CELLS
returns-then-plan-gt-PLAN_CELLS c =
    entry-size c.requires.0 _ _ _ c.if-width-named.false c.if-plan-gt-PLAN_CELLS.true c.refusal.ensures

pub state-requires : goal.state-requires
state-requires c = ready-first c.requires.0 _ _ _ c.if-width-named.false c.open_rows.ensures c.requires.1 refl

pub returns-in_err-seen : goal.returns-in_err-seen
returns-in_err-seen c =
    let p = err_from_is_err_and c.from_residual.result c.from_residual.ensures.1 in
    rw (p.1, p.2) (entry-refused c.requires.0 _ _ _ c.if-width-named.false c.open_rows.ensures
    c.if-plan-gt-PLAN_CELLS.false c.state.ensures c.in_err-seen.was)

pub returns-then-seen-plan : goal.returns-then-seen-plan
returns-then-seen-plan c =
    entry-extra c.requires.0 _ _ _ c.if-width-named.false c.open_rows.ensures
    c.if-plan-gt-PLAN_CELLS.false c.state.ensures c.in_ok-seen.was c.if-seen-plan.true c.refusal-then-seen-plan.ensures

pub returns : goal.returns
returns c =
    entry-accepted c.requires.0 _ _ _ c.if-width-named.false c.open_rows.ensures
    c.if-plan-gt-PLAN_CELLS.false c.state.ensures c.in_ok-seen.was c.if-seen-plan.false
