use Prim.Native.Nat.{◌-◌}
use lib.ListN.{length}
use Rattle.unfolding.specs.code.Walk.{Stands}
use Rattle.unfolding.proofs.PastLaws.{Left}
use Rattle.unfolding.proofs.past.+past_state.Given as goal

abbrev pub invariant-loop : goal.invariant-loop
invariant-loop l = (w : Stands l.plan l.at l.places) → Left w (l.branches - l.counter) l.here

abbrev pub decreases-past_state : goal.decreases-past_state
decreases-past_state l = length l.plan.now - l.at
