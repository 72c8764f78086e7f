use Rattle.std.proofs.Common.{◌≤◌}
use Prim.Native.Nat.{suc}
use Rattle.paircosts.specs.code.Filling.{Task, FilledTo}
use Rattle.paircosts.proofs.arrays.pairs_again.Given as goal

abbrev pub invariant-loop-number : goal.invariant-loop-number
invariant-loop-number l = (t : Task l.cells l.marks l.starts l.asked l.initial.kept) → FilledTo t (suc l.number) l.number l.kept
