use Rattle.std.proofs.Common.{◌≡◌, ◌+◌, ◌-◌, ◌≤◌}
use Rattle.std.proofs.lemmas.List.Edits.{sets}
use Rattle.table.specs.Table.{up_from}
use Rattle.run.proofs.walk.put_rows.Given as goal

abbrev pub invariant-loop-k : goal.invariant-loop-k
invariant-loop-k l =
    l.row + l.n ≤ 64 → sets l.room (l.at + l.k) (up_from (l.row + l.k) (l.n - l.k)) ≡ sets l.initial.room l.at (up_from l.row l.n)
