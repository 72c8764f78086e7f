use Prim.Native.Nat.{◌≤◌}
use lib.ListN.{length}
use Rattle.naming.specs.code.Names.{ApartTo}
use Rattle.naming.proofs.no_two.Given as goal

abbrev pub invariant-loop-k : goal.invariant-loop-k
invariant-loop-k l = (l.k ≤ length l.names) × ApartTo l.text l.names l.k
