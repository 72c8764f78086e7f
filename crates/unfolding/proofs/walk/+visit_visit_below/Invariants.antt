use Prim.Native.Nat.{◌+◌, ◌-◌, ◌*◌}
use lib.ListN.{length}
use Rattle.unfolding.specs.code.Visits.{Peopled}
use Rattle.unfolding.proofs.VisitLaws.{Left}
use Rattle.unfolding.proofs.walk.+visit_visit_below.Given as goal

abbrev pub invariant-visit_below-loop : goal.invariant-visit_below-loop
invariant-visit_below-loop l =
    (w : Peopled l.plan l.first l.places) → Left w l.initial.here.number l.initial.here.to l.initial.program l.program (l.branches - l.counter) l.here

abbrev pub decreases-visit : goal.decreases-visit
decreases-visit l = 2 * (length l.plan.now - l.from.at) + 1

abbrev pub decreases-visit_below : goal.decreases-visit_below
decreases-visit_below l = 2 * (length l.plan.now - l.from.at)
