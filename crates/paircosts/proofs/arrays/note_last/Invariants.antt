use Rattle.paircosts.specs.code.Notes.{LastRow, Alone}
use Rattle.paircosts.proofs.arrays.note_last.Given as goal

abbrev pub invariant-loop-q : goal.invariant-loop-q
invariant-loop-q l = (g : LastRow l.cells l.marks l.initial.notes l.s.to l.initial.q l.q-end) → Alone g l.q l.notes l.agreed l.met
