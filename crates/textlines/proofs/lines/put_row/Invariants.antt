use Prim.Native.Nat.{◌≤◌}
use lib.ListN.{length, drop}
use Rattle.octets.proofs.PutLaws.{Putting}
use Rattle.textlines.specs.Lines.{row_line}
use Rattle.textlines.proofs.lines.put_row.Given as goal

abbrev pub invariant-loop-i : goal.invariant-loop-i
invariant-loop-i l = (l.i ≤ length l.row) × Putting l.initial.out l.out l.to l.on (row_line (drop l.i l.row)) (row_line l.row)
