use Rattle.edits.proofs.StoringLaws.{Clearing}
use Rattle.edits.proofs.clear_pairs.Given as goal

abbrev pub invariant-loop-first : goal.invariant-loop-first
invariant-loop-first l = Clearing l.last l.first l.initial.kept l.kept
