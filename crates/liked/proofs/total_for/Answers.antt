use Rattle.std.proofs.Common.{ap, arith}
use Rattle.std.proofs.lemmas.Result.{err_from_is_err_and}
use Rattle.builder.specs.Build.{build_told}
use Rattle.liked.proofs.SearchLaws.{written, total-tried, total-refused}
use Rattle.liked.proofs.total_for.Goals as goal

-- the plan for the set of columns fits a room that holds any
pub slice_bounds-plan-end : goal.slice_bounds-plan-end
slice_bounds-plan-end c =
    let b = rw c.columns_of-named.ensures.are at c.build_for.ensures in
    (written b (ap build_told c.in_ok-built.was)).there

pub returns-in_err-built : goal.returns-in_err-built
returns-in_err-built c =
    let b = rw c.columns_of-named.ensures.are at c.build_for.ensures in
    let p = err_from_is_err_and c.from_residual.result c.from_residual.ensures.1 in
    rw (p.1, p.2) (total-refused b c.in_err-built.was (omega arith))

pub returns : goal.returns
returns c =
    let b = rw c.columns_of-named.ensures.are at c.build_for.ensures in
    total-tried b c.in_ok-built.was c.total_tried.ensures
