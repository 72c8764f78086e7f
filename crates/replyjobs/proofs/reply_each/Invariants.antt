-- After i turns the first i records are made anew, one after another, the replies standing up to place `on` of the room (`RepliedUpto`).
use Rattle.std.proofs.Common.{ℕ, ◌≤◌, ◌-◌, List, length}
use Rattle.plannotes.specs.Noted.{NotedInto}
use Rattle.replyjobs.specs.code.Upto.{RepliedUpto}
use Rattle.replyjobs.proofs.reply_each.Given as goal

abbrev pub invariant-loop-job : goal.invariant-loop-job
invariant-loop-job l =
    (l.on ≤ length l.initial.room)
    × ((plan before : List ℕ) → NotedInto l.table plan before l.numbers l.noted
    → RepliedUpto l.table plan l.cells l.job-index 0 l.on l.initial.room l.room l.initial.jobs l.jobs)
