use Rattle.std.proofs.Common.{◌≡◌, ◌-◌, ◌≤◌, length}
use Rattle.paircosts.specs.code.Notes.{past_of}
use Rattle.paircosts.proofs.arrays.past.Given as goal

-- the terms that are left end where all of them do
abbrev pub invariant-loop : goal.invariant-loop
invariant-loop l = record {
  ends : past_of l.cells (l.terms - l.counter) l.at ≡ past_of l.cells l.terms l.start;
  on : l.start ≤ l.at;
  inside : l.at ≤ length l.cells;
}
