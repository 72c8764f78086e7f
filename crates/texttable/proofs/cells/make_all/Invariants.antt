use Prim.Native.Nat.{◌-◌}
use mathlib.Core.Path.{◌≡◌}
use lib.ListN.{length}
use Rattle.texttable.specs.code.Cells.{State, Ready}
use Rattle.texttable.proofs.cells.make_all.Given as goal

abbrev pub invariant-loop-next : goal.invariant-loop-next
invariant-loop-next l =
    ((length l.list ≡ length l.initial.list) × (length l.links ≡ length l.initial.links) × (length l.words ≡ length l.initial.words) × (length l.ways ≡ length l.initial.ways)
    × (length l.given ≡ length l.initial.given)
    × (length l.cells ≡ length l.initial.cells) × (length l.owners ≡ length l.initial.owners))
    × ((R : Ready l.text l.initial.list l.initial.links l.initial.words l.initial.ways l.initial.given l.initial.cells l.initial.owners l.initial.m l.initial.k)
    → State l.text R.facts R.start R.listed l.list l.links l.words l.ways l.given l.cells l.owners l.m l.k)

abbrev pub decreases-loop-next : goal.decreases-loop-next
decreases-loop-next l =
    length l.text - l.m.at
