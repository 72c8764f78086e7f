-- Of a column with any cell, what is counted and what is left of the first run are the run.
use Rattle.std.proofs.Common.{◌≡◌, ◌+◌, ◌-◌, ◌<◌, length, get_or, drop}
use Rattle.state.specs.Column.{follow, run_length}
use Rattle.state.proofs.column.run_length.Given as goal

abbrev pub invariant-loop-n : goal.invariant-loop-n
invariant-loop-n l = 0 < length l.column → l.n + follow (get_or l.column (l.n - 1) 0) (drop l.n l.column) ≡ run_length l.column
