-- The rows that are left are as many as n, and end where the last one before them starts.
use Rattle.std.proofs.Common.{◌≡◌}
use Rattle.cell.specs.Same.{among}
use Rattle.samerows.specs.Starts.{rows_but, rows_lent}
use Rattle.samerows.proofs.stands_among.Given as goal

abbrev pub invariant-loop-n : goal.invariant-loop-n
invariant-loop-n l = among l.row (rows_but l.cells l.starts l.but l.n l.end) ≡ among l.row (rows_lent l.cells l.starts l.but)
