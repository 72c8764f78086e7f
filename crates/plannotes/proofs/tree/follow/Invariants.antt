use Rattle.std.proofs.Common.{◌≡◌, ◌-◌, length}
use Rattle.plannotes.specs.code.Tree.{Ready, Went}
use Rattle.plannotes.proofs.tree.follow.Given as goal

abbrev pub invariant-loop-start : goal.invariant-loop-start
invariant-loop-start l = record {
  went : (w : Ready l.plan l.initial.links l.initial.notes l.start.at l.start.width l.start.made l.start.free l.start.row)
      → Went w l.links l.notes l.here.at l.here.width l.here.made l.here.free;
  row : l.here.row ≡ l.start.row;
}

abbrev pub decreases-loop-start : goal.decreases-loop-start
decreases-loop-start l = length l.plan - l.here.at
