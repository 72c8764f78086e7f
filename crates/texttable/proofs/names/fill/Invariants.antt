use Rattle.texttable.specs.code.Names.{Filling}
use lib.ListN.{length}
use mathlib.Core.Path.{◌≡◌}
use Prim.Native.Nat.{◌-◌, ◌≤◌}
use Rattle.texttable.proofs.names.fill.Given as goal

abbrev pub invariant-loop-count : goal.invariant-loop-count
invariant-loop-count l =
    (length l.list ≡ length l.initial.list) × (length l.links ≡ length l.initial.links) × (l.count ≤ length l.list) × Filling l.text l.initial.to l.list l.links l.count l.to

abbrev pub decreases-loop-count : goal.decreases-loop-count
decreases-loop-count l = length l.text - l.to.at
