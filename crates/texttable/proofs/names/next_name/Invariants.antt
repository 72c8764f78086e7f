use Rattle.texttable.specs.code.Names.{Passed}
use Rattle.symbols.specs.code.Left.{Left}
use Rattle.loading.specs.Items.{Item}
use lib.ListN.{length}
use mathlib.Core.List.{List}
use Prim.Native.Nat.{◌-◌, ◌≤◌}
use Rattle.texttable.proofs.names.next_name.Given as goal

abbrev pub invariant-loop-start : goal.invariant-loop-start
invariant-loop-start l = (l.initial.at.at ≤ l.at.at) × ((rest : List Item) → Left l.text l.initial.at rest → Passed l.text l.at rest)

abbrev pub decreases-loop-start : goal.decreases-loop-start
decreases-loop-start l = length l.text - l.at.at
