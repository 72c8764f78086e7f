-- What is counted and what is left are all runs.
use Rattle.std.proofs.Common.{◌≡◌, ◌+◌, ◌-◌, ◌≤◌, get_or, drop}
use Rattle.state.specs.Column.{breaks, run_count}
use Rattle.state.proofs.column.run_count.Given as goal

abbrev pub invariant-loop-row : goal.invariant-loop-row
invariant-loop-row l = (l.count ≤ l.row) × (l.count + breaks (get_or l.column (l.row - 1) 0) (drop l.row l.column) ≡ run_count l.column)
