use Rattle.plannotes.proofs.BranchLaws.{Finishing}
use Rattle.plannotes.proofs.branch.finish.Given as goal

abbrev pub invariant-loop-i : goal.invariant-loop-i
invariant-loop-i l = Finishing l.initial.notes l.fn.from l.to l.past l.notes l.seen l.again l.i
