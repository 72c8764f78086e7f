use Prim.Native.Nat.{◌+◌, ◌-◌, ◌/◌, ◌*◌, ◌≤◌}
use Rattle.texttable.specs.code.Tree.{MixKept, Seeks}
use Rattle.texttable.proofs.tree.find.Given as goal

abbrev pub invariant-loop-count : goal.invariant-loop-count
invariant-loop-count l =
    (l.slot ≤ 2 * l.count) × (l.d ≤ (l.slot + 1) / 2) × Seeks l.text l.list l.links l.count l.word l.slot l.d × MixKept l.word l.mix l.d

abbrev pub decreases-loop-count : goal.decreases-loop-count
decreases-loop-count l = l.count - (l.slot + 1) / 2
