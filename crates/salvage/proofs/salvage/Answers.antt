use Rattle.std.proofs.lemmas.Result.{err_from_is_err_and}
use Rattle.salvage.proofs.GiveLaws.{rows-lost, rows-said}
use borrow.Author.Rules.{rules}
use Rattle.salvage.proofs.salvage.Goals as goal

pub slice_bounds-save-count : goal.slice_bounds-save-count
slice_bounds-save-count c = (rows-said c.rows_of.ensures c.in_ok-top.was).two

pub slice_bounds-save-start : goal.slice_bounds-save-start
slice_bounds-save-start c = let h = (rows-said c.rows_of.ensures c.in_ok-top.was).two in search rules

pub slice_bounds-save-end : goal.slice_bounds-save-end
slice_bounds-save-end c = let h = (rows-said c.rows_of.ensures c.in_ok-top.was).within in search rules

pub save-requires : goal.save-requires
save-requires c = let h = (rows-said c.rows_of.ensures c.in_ok-top.was) in (h.is, h.table)

pub returns-in_err-top : goal.returns-in_err-top
returns-in_err-top c =
    let p = err_from_is_err_and c.from_residual.result c.from_residual.ensures.1 in
    rw (p.1, p.2) (rows-lost c.rows_of.ensures c.in_err-top.was)
