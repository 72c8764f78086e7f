use Rattle.std.proofs.Common.{◌≡◌, ◌+◌, ◌-◌}
use Rattle.std.proofs.lemmas.List.Edits.{sets}
use Rattle.table.specs.Table.{up_from}
use Rattle.run.proofs.nodes.numbers.Given as goal

abbrev pub invariant-loop-r : goal.invariant-loop-r
invariant-loop-r l = sets l.table l.r (up_from (l.first + l.r) (64 - l.r)) ≡ up_from l.first 64
