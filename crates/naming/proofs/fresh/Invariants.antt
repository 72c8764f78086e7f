use Prim.Native.Nat.{◌≤◌}
use Rattle.naming.specs.code.Names.{FreshTo}
use Rattle.naming.proofs.fresh.Given as goal

abbrev pub invariant-loop-i : goal.invariant-loop-i
invariant-loop-i l = (l.i ≤ l.k) × FreshTo l.text l.names l.k l.i
