use Rattle.std.proofs.Common.{refl, arith}
use Rattle.std.proofs.lemmas.Result.{err_from_is_err_and}
use Rattle.liked.specs.Liked.{table-refused}
use Rattle.liked.proofs.SearchLaws.{wide, plainly, plain-refused, total-is, liked-found}
use Rattle.liked.proofs.build_liked.Goals as goal

pub bounds-cells-0 : goal.bounds-cells-0
bounds-cells-0 c = let w = wide (total-is c.total_for.ensures c.in_ok-plain.was) in omega (arith, w.there)

pub overflow_shl-width : goal.overflow_shl-width
overflow_shl-width c = let w = wide (total-is c.total_for.ensures c.in_ok-plain.was) in omega (arith, w.width, w.narrow.1)

pub best_of-best-requires : goal.best_of-best-requires
best_of-best-requires c = plainly (wide (total-is c.total_for.ensures c.in_ok-plain.was))

pub returns-in_err-plain : goal.returns-in_err-plain
returns-in_err-plain c =
    let p = err_from_is_err_and c.from_residual.result c.from_residual.ensures.1 in
    rw (p.1, p.2) (table-refused _ (plain-refused c.total_for.ensures c.in_err-plain.was) refl refl refl)

pub returns-in_err-built : goal.returns-in_err-built
returns-in_err-built c =
    let b = rw c.columns_of-named.ensures.are at c.build_for.ensures in
    let p = err_from_is_err_and c.from_residual-in_err-built.result c.from_residual-in_err-built.ensures.1 in
    rw (p.1, p.2) (liked-found (plainly (wide (total-is c.total_for.ensures c.in_ok-plain.was))) c.best_of-best.ensures b c.in_err-built.was refl)

-- the set that is found, and the plan for it
pub returns : goal.returns
returns c =
    let b = rw c.columns_of-named.ensures.are at c.build_for.ensures in
    liked-found (plainly (wide (total-is c.total_for.ensures c.in_ok-plain.was))) c.best_of-best.ensures b c.in_ok-built.was refl
