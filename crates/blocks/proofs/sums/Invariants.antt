use Rattle.blocks.proofs.SumsLaws.{Running}
use Rattle.blocks.proofs.sums.Given as goal

abbrev pub invariant-loop-c : goal.invariant-loop-c
invariant-loop-c l = Running l.number l.cells l.one l.two l.c-index
