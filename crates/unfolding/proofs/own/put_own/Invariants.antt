use Prim.Native.Nat.{◌-◌}
use Rattle.unfolding.specs.code.Visits.{Peopled}
use Rattle.unfolding.proofs.OwnLaws.{OwnLeft}
use Rattle.unfolding.proofs.own.put_own.Given as goal

abbrev pub invariant-loop : goal.invariant-loop
invariant-loop l =
    (w : Peopled l.plan l.at l.places) → OwnLeft w l.number l.next l.index l.initial.program l.initial.on l.program (l.branches - l.counter) l.p l.on l.called
