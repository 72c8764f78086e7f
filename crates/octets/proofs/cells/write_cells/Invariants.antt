use lib.ListN.{drop}
use Rattle.octets.specs.Octets.{bytes_of}
use Rattle.octets.proofs.PutLaws.{Putting}
use Rattle.octets.proofs.cells.write_cells.Given as goal

abbrev pub invariant-loop-cell : goal.invariant-loop-cell
invariant-loop-cell l = Putting l.initial.out l.out l.to l.on (bytes_of (drop l.cell-index l.cells)) (bytes_of l.cells)
