use Prim.Native.Nat.{◌-◌, ◌≤◌}
use mathlib.Core.Path.{◌≡◌}
use lib.ListN.{length}
use Rattle.scan.specs.code.Arguments.{Ready, UnderSpot, arguments_at}
use Rattle.scan.proofs.arguments.read_arguments.Given as goal

abbrev pub invariant-loop-s : goal.invariant-loop-s
invariant-loop-s l =
    (l.at ≤ l.sp.at) × Ready l.text l.dones l.sp × UnderSpot (arguments_at l.text l.at) l.text l.dones l.sp × (length l.dones ≡ length l.initial.dones)

abbrev pub decreases-loop-s : goal.decreases-loop-s
decreases-loop-s l = length l.text - l.sp.at
