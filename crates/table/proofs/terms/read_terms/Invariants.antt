-- The terms end no earlier than here, what is left to read comes to what there was to read, and the mark is that of the cells so far.
use Rattle.std.proofs.Common.{◌≡◌, ◌+◌, ◌-◌, ◌*◌, ◌≤◌, drop}
use Rattle.slices.specs.Slices.{between}
use Rattle.samerows.specs.Marks.{mark_of}
use Rattle.table.specs.Table.{terms_from}
use Rattle.table.proofs.LooksLaws.{left}
use Rattle.table.proofs.terms.read_terms.Given as goal

abbrev pub invariant-loop-at : goal.invariant-loop-at
invariant-loop-at l = record {
  owed : l.at ≤ l.to;
  few : l.to ≤ l.from + 33 + 4 * (l.at - l.from);
  seen : l.vars + l.from ≤ l.at;
  mark : l.mark ≡ mark_of (between l.from l.at l.cells);
  rest : left l.row l.cells l.from l.to l.vars l.at ≡ terms_from l.row (drop l.from l.cells) l.width 0 0 l.from;
}
