use Rattle.walking.proofs.GoalLaws.{Done}
use Rattle.run.proofs.nodes.siblings.Given as goal

abbrev pub invariant-loop-p : goal.invariant-loop-p
invariant-loop-p l = Done l.goal l.sib l.p
