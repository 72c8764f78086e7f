use Prim.Native.Nat.{◌-◌}
use lib.ListN.{length}
use Rattle.listing.specs.code.Walk.{Ready}
use Rattle.listing.proofs.WalkLaws.{stand, Left}
use Rattle.listing.proofs.walk.+state.Given as goal

-- what is done and what is left are the whole
abbrev pub invariant-loop-passed : goal.invariant-loop-passed
invariant-loop-passed l =
    (w : Ready l.plan l.noted l.places l.depth l.stop (stand l.at l.number l.to)) → Left w l.initial.out l.out l.index (l.branches - l.passed) l.here

-- what is left of the plan
abbrev pub decreases-state : goal.decreases-state
decreases-state l = length l.plan.now - l.from.at
