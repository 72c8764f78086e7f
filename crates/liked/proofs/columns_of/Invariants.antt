use Rattle.liked.proofs.ColumnLaws.{Filled}
use Rattle.liked.proofs.columns_of.Given as goal

abbrev pub invariant-loop-c : goal.invariant-loop-c
invariant-loop-c l = Filled l.mask l.list l.count l.c
