use Prim.Native.Nat.{◌-◌, ◌≤◌}
use lib.ListN.{replicate}
use Rattle.octets.proofs.PutLaws.{Putting}
use Rattle.answer.specs.Skeleton.{hole}
use Rattle.heads.proofs.put_holes.Given as goal

abbrev pub invariant-loop : goal.invariant-loop
invariant-loop l =
    (l.counter ≤ l.n) × Putting l.initial.out l.out l.to l.on (replicate (l.n - l.counter) hole) (replicate l.n hole)
