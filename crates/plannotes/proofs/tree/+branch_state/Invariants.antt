use Rattle.std.proofs.Common.{◌+◌, ◌-◌, ◌*◌, length, get_or}
use Rattle.plannotes.specs.code.Tree.{Ready}
use Rattle.plannotes.proofs.TreeLaws.{Rest}
use Rattle.plannotes.proofs.tree.+branch_state.Given as goal

abbrev pub decreases-branch : goal.decreases-branch
decreases-branch l = 2 * (length l.plan.now - l.here.place) + 1

abbrev pub decreases-state : goal.decreases-state
decreases-state l = 2 * (length l.plan.now - l.here.at)

abbrev pub invariant-state-loop : goal.invariant-state-loop
invariant-state-loop l = (w : Ready l.plan l.links l.fn.notes l.here.at l.here.width l.here.made l.here.free l.here.row)
    → Rest w l.notes l.next (get_or l.plan (l.here.at + 1) 0 - l.counter)
