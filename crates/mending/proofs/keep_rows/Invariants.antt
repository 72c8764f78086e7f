use Rattle.mending.proofs.KeepLaws.{Keeping}
use Rattle.mending.proofs.keep_rows.Given as goal

abbrev pub invariant-loop-n : goal.invariant-loop-n
invariant-loop-n l = Keeping l.cells l.width l.most l.starts l.at l.n
