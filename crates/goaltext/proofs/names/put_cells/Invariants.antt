use mathlib.Core.Path.{◌≡◌}
use lib.ListN.{length, drop}
use lib.Seq.{sets}
use Rattle.termtext.specs.code.Renumber.{new_cells}
use Rattle.goaltext.proofs.names.put_cells.Given as goal

abbrev pub invariant-loop-i : goal.invariant-loop-i
invariant-loop-i l =
    (length l.cells ≡ length l.initial.cells)
    × (sets l.cells l.i (new_cells l.numbers (drop l.i l.row)) ≡ sets l.initial.cells 0 (new_cells l.numbers l.row))
