use Rattle.std.proofs.Common.{ℕ, ◌*◌, ◌^◌, ◌<◌, List}
use Rattle.plannotes.specs.Noted.{NotedInto}
use Rattle.shift.proofs.TotalLaws.{Rest}
use Rattle.shift.proofs.jobs.add_all.Given as goal

abbrev pub invariant-loop-k : goal.invariant-loop-k
invariant-loop-k l =
    (l.tried < 2 ^ 64)
    × ((table plan before : List ℕ) → NotedInto table plan before l.numbers l.noted → Rest table plan l.cells l.list (2 * l.k) l.tried)
