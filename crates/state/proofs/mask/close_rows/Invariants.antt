-- The rows from `row` up to the last are closed.
use Rattle.std.proofs.Common.{◌≤◌, min}
use Rattle.state.specs.States.{ClosedRows}
use Rattle.state.proofs.mask.close_rows.Given as goal

abbrev pub invariant-loop-row : goal.invariant-loop-row
invariant-loop-row l =
    (min l.first (min l.end 64) ≤ l.row) × ClosedRows l.cells l.starts l.initial.masks l.initial.column l.masks l.column l.i l.row (min l.end 64)
