-- What is left to read, after the rows that were seen, comes to what there was to read.
use Rattle.std.proofs.Common.{◌≡◌, [], ◌-◌, ◌≤◌, length, drop, replicate}
use Rattle.samerows.specs.Starts.{rows_but, Ascends}
use Rattle.samerows.specs.Marks.{Marked}
use Rattle.table.specs.Table.{rows_from}
use Rattle.table.proofs.RowsLaws.{after}
use Rattle.table.proofs.read_rows.Given as goal

abbrev pub invariant-loop-n : goal.invariant-loop-n
invariant-loop-n l = record {
  within : l.at ≤ length l.cells;
  starts : length l.starts ≡ 64;
  marks : length l.marks ≡ 64;
  up : Ascends l.starts l.n l.at;
  marked : Marked l.cells l.starts l.marks l.n l.at;
  rest : after l.width l.n l.starts l.at (rows_from l.width (l.rows - l.n) (rows_but l.cells l.starts 64 l.n l.at) (drop l.at l.cells) l.at)
      ≡ after l.width 0 (replicate 64 0) 2 (rows_from l.width l.rows [] (drop 2 l.cells) 2);
}
