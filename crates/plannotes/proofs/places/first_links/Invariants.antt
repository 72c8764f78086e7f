use Rattle.std.proofs.Common.{◌≡◌, ◌+◌, ◌-◌}
use Rattle.std.proofs.lemmas.List.Edits.{sets}
use Rattle.table.specs.Table.{up_from}
use Rattle.plannotes.proofs.places.first_links.Given as goal

abbrev pub invariant-loop-s : goal.invariant-loop-s
invariant-loop-s l = sets l.links l.s (up_from (l.s + 1) (64 - l.s)) ≡ up_from 1 64
