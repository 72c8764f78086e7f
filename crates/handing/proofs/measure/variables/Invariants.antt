use Prim.Native.Nat.{◌≤◌}
use mathlib.Core.Path.{◌≡◌}
use lib.ListN.{length, drop}
use Rattle.handing.specs.code.Lines.{met_in}
use Rattle.handing.proofs.measure.variables.Given as goal

abbrev pub invariant-loop-c : goal.invariant-loop-c
invariant-loop-c l = (l.most ≤ l.c-index) × (l.c-index ≤ length l.head) × (met_in (drop l.c-index l.head) l.most ≡ met_in l.head 0)
