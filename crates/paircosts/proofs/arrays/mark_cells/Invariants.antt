use Rattle.least.specs.Measures.{measure_of}
use Rattle.paircosts.specs.code.Notes.{MarkedFrom}
use Rattle.paircosts.proofs.arrays.mark_cells.Given as goal

abbrev pub invariant-loop-j : goal.invariant-loop-j
invariant-loop-j l = MarkedFrom (measure_of l.by) l.cells l.marks l.j
