use Rattle.meeting.specs.code.Turns.{Swapped}
use Rattle.meeting.proofs.swap.Given as goal

abbrev pub invariant-loop-i : goal.invariant-loop-i
invariant-loop-i l = Swapped l.initial.cells l.cells l.v l.c l.i
