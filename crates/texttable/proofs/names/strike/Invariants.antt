use Rattle.texttable.specs.code.Names.{Shown, Struck, Striking}
use Rattle.symbols.specs.code.Left.{Left}
use Rattle.loading.specs.Items.{Item}
use Rattle.grammar.specs.Meaning.{Place}
use lib.ListN.{length}
use mathlib.Core.List.{List}
use mathlib.Core.Path.{◌≡◌}
use Prim.Native.Nat.{◌-◌}
use Rattle.texttable.proofs.names.strike.Given as goal

abbrev pub invariant-loop-start : goal.invariant-loop-start
invariant-loop-start l =
    (length l.marks ≡ length l.initial.marks) × ((ns : List Place) (rest rest₀ : List Item) → length ns ≡ l.count → Shown l.text l.list l.links ns → Left l.text l.initial.at rest
    → Struck l.text ns l.initial.marks rest rest₀ → Striking l.text ns l.at l.marks rest₀)

abbrev pub decreases-loop-start : goal.decreases-loop-start
decreases-loop-start l = length l.text - l.at.at
