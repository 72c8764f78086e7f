use Rattle.std.proofs.Common.{◌≤◌, ◌-◌, min, arith}
use Rattle.state.proofs.RowsLaws.{closed_none, closed-one, closed_all}
use Rattle.state.proofs.mask.close_rows.Goals as goal

pub loop-row-init : goal.loop-row-init
loop-row-init c =
    let a = c.args in (
      omega (arith, c.min-row.ensures),
      closed_none a.cells.now a.starts.now a.masks.now a.column.now a.i c.min-row.result (min a.end 64) (omega (arith, c.min-row.ensures)),
    )

pub loop-row-preserved : goal.loop-row-preserved
loop-row-preserved c =
    let a = c.args in
    let l = c.loop-row in
    let e = c.close_at-closed.ensures in
    let few : l.row ≤ min a.end 64 = omega (arith, c.min-row.ensures) in (
      omega arith,
      closed-one a.cells.now a.starts.now a.masks.now a.column.now a.i l.masks l.column (l.row - 1) l.row (min a.end 64)
          c.close_at-closed.result.cell c.close_at-closed.result.mask (omega arith) few e.cell e.mask e.list l.invariant.1,
    )

pub returns : goal.returns
returns c =
    let a = c.args in
    let l = c.loop-row in
    closed_all a.cells.now a.starts.now a.masks.now a.column.now a.i a.first l.row (min a.end 64) (omega (arith, c.min-row.ensures))
    l.invariant.0 (omega arith) l.invariant.1
