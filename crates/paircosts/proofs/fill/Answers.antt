use Rattle.std.proofs.Common.{ap, arith}
use Rattle.std.proofs.lemmas.Result.{err_from_is_err_and}
use Rattle.paircosts.proofs.LaidLaws.{laid-rows}
use Rattle.paircosts.proofs.WorkedLaws.{figure-small, rows-by, turned_by, table_filled, none_filled, other-filled}
use Rattle.paircosts.proofs.fill.Goals as goal

pub returns-in_err-read : goal.returns-in_err-read
returns-in_err-read c =
    let a = c.args in
    let p = err_from_is_err_and c.from_residual.result c.from_residual.ensures.1 in
    rw (p.1, p.2) (none_filled (turned_by a.by a.cells.now c.read_by.ensures c.in_err-read.was) c.in_err-read.ensures)

pub asked_pairs-requires : goal.asked_pairs-requires
asked_pairs-requires c =
    let a = c.args in
    let s = figure-small a.by a.cells.now c.read_by.ensures c.in_ok-read.was in (
      laid-rows (rows-by a.by a.cells.now c.read_by.ensures c.in_ok-read.was),
      c.if-kept-eq-KEPT_CELLS.true,
      c.figure_of.ensures,
      omega (arith, c.figure_of.ensures, s),
    )

pub returns-then-kept-eq-KEPT_CELLS : goal.returns-then-kept-eq-KEPT_CELLS
unfolding laid-rows
returns-then-kept-eq-KEPT_CELLS c =
    let a = c.args in
    let k = rows-by a.by a.cells.now c.read_by.ensures c.in_ok-read.was in
    table_filled a.named a.by k (figure-small a.by a.cells.now c.read_by.ensures c.in_ok-read.was) c.in_ok-read.ensures c.asked_pairs.auto.kept
    c.if-kept-eq-KEPT_CELLS.true (c.asked_pairs.ensures (laid-rows k))

pub returns-else-kept-eq-KEPT_CELLS : goal.returns-else-kept-eq-KEPT_CELLS
returns-else-kept-eq-KEPT_CELLS c = other-filled c.if-kept-eq-KEPT_CELLS.false c.in_ok-read.ensures
