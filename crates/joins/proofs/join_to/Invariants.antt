use Rattle.std.proofs.Common.{◌≡◌, length}
use Rattle.classes.proofs.ArrayLaws.{Moving}
use Rattle.joins.proofs.join_to.Given as goal

abbrev pub invariant-loop-z : goal.invariant-loop-z
invariant-loop-z l = length l.initial.rep ≡ 64 → Moving l.initial.rep l.rep l.x l.y l.z-index
