use lib.ListN.{take}
use Rattle.octets.specs.Octets.{Put, cells_of}
use Rattle.octets.proofs.read_cells.Given as goal

-- the first i cells are put
abbrev pub invariant-loop-i : goal.invariant-loop-i
invariant-loop-i l = Put l.initial.cells l.cells 0 (take l.i (cells_of l.bytes)) l.i
