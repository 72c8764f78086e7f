use Rattle.linecut.proofs.CutLaws.{Moved}
use Rattle.linecut.proofs.move_front.Given as goal

abbrev pub invariant-loop-i : goal.invariant-loop-i
invariant-loop-i l = Moved l.initial.buf l.buf l.from l.to l.i l.n
