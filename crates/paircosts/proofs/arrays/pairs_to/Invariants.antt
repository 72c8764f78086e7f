use Rattle.std.proofs.Common.{◌≡◌, List, ℕ}
use Rattle.paircosts.specs.code.Filling.{Task, NotedTo}
use Rattle.paircosts.proofs.arrays.pairs_to.Given as goal

-- for each task for which it is so where the loop begins, a row is noted and its pair is done
abbrev pub invariant-loop-number : goal.invariant-loop-number
invariant-loop-number l = record {
  is : l.first.number ≡ l.number;
  noted : (old : List ℕ) (t : Task l.cells l.marks l.starts l.asked old)
      → NotedTo t l.initial.first.number l.last l.initial.first l.initial.notes l.initial.kept l.initial.agreed
      → NotedTo t l.first.number l.last l.first l.notes l.kept l.agreed;
}
