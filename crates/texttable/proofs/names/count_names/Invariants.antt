use Rattle.texttable.specs.code.Names.{Counting}
use Rattle.grammar.specs.Reader.{text_of}
use Rattle.grammar.specs.Reader as reader
use Rattle.grammar.specs.Grammar.{Fact}
use lib.ListN.{length}
use mathlib.Core.List.{List}
use mathlib.Core.Path.{◌≡◌}
use Prim.Native.Nat.{◌-◌, ◌≤◌}
use Rattle.texttable.proofs.names.count_names.Given as goal

abbrev pub invariant-loop-batch : goal.invariant-loop-batch
invariant-loop-batch l =
    (l.total ≤ l.at.at) × (l.at.at ≤ length l.text) × ((facts : List Fact) → text_of l.text ≡ reader.reads facts → Counting l.text l.at l.total facts)

abbrev pub decreases-loop-batch : goal.decreases-loop-batch
decreases-loop-batch l = length l.text - l.at.at
