use Prim.Native.Nat.{◌+◌, ◌≤◌}
use mathlib.Core.Path.{◌≡◌}
use lib.ListN.{length, drop}
use Rattle.clauses.specs.code.Walk.{hole_at}
use Rattle.heads.proofs.hole_at.Given as goal

abbrev pub invariant-loop-at : goal.invariant-loop-at
invariant-loop-at l =
    (l.at ≤ length l.head) × (l.at + hole_at (drop l.at l.head) l.left ≡ hole_at l.head l.i)
