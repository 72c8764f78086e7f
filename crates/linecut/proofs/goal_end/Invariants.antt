use mathlib.Core.Path.{◌≡◌}
use mathlib.Core.Bool.{false}
use Prim.Native.Nat.{◌≤◌}
use lib.ListN.{length, drop}
use Rattle.linecut.specs.Cut.{bracket_end}
use Rattle.linecut.proofs.goal_end.Given as goal

abbrev pub invariant-loop-i : goal.invariant-loop-i
invariant-loop-i l =
    (l.i ≤ length l.goal) × (bracket_end l.remark l.i l.end (drop l.i l.goal) ≡ bracket_end false 0 0 l.goal)
