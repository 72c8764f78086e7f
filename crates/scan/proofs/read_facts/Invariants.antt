use Prim.Native.Nat.{◌-◌, ◌≤◌}
use mathlib.Core.Path.{◌≡◌}
use lib.Dec.{eqb}
use lib.ListN.{length}
use Rattle.scan.specs.code.Facts.{FactsKept, Going}
use Rattle.scan.proofs.read_facts.Given as goal

abbrev pub invariant-loop-seen : goal.invariant-loop-seen
invariant-loop-seen l =
    (l.at ≤ length l.text) × FactsKept l.text l.at l.tally × Going l.text l.at (eqb l.tally.facts 0) l.tally × (length l.dones ≡ length l.initial.dones)

abbrev pub decreases-loop-seen : goal.decreases-loop-seen
decreases-loop-seen l = length l.text - l.at
