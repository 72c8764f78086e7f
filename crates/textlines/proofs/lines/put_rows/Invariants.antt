use Prim.Native.Nat.{◌≤◌}
use lib.ListN.{drop}
use Rattle.octets.proofs.PutLaws.{Putting}
use Rattle.table.specs.Table.{table_of}
use Rattle.textlines.specs.Lines.{row_lines}
use Rattle.textlines.specs.code.Puts.{rows_of}
use Rattle.textlines.proofs.lines.put_rows.Given as goal

abbrev pub invariant-loop-r : goal.invariant-loop-r
invariant-loop-r l =
    (l.r ≤ l.count) × Putting l.initial.out l.out l.to l.on (row_lines (drop l.r (rows_of (table_of l.cells)))) (row_lines (rows_of (table_of l.cells)))
