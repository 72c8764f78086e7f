use Rattle.std.proofs.Common.{◌+◌, ◌-◌, ◌*◌}
use Rattle.state.specs.States.{rows_in}
use Rattle.checker.proofs.StateLaws.{longest}
use Rattle.checker.proofs.LoopLaws.{Going}
use Rattle.checker.proofs.check.+branches_state.Given as goal

-- two calls for each cell that the longest row still has: at most 64
abbrev pub decreases-branches : goal.decreases-branches
decreases-branches l = 2 * longest (rows_in l.lent.now.table.now l.lent.now.starts.now l.room.now.masks l.first l.end) + 1

abbrev pub decreases-state : goal.decreases-state
decreases-state l = 2 * longest (rows_in l.lent.now.table.now l.lent.now.starts.now l.room.now.masks l.first l.end)

abbrev pub invariant-branches-loop-row : goal.invariant-branches-loop-row
invariant-branches-loop-row l =
    Going l.lent.table.now l.lent.starts.now l.plan l.fn.room.masks l.fn.room.column l.first l.end l.named l.i l.k l.at l.room.masks l.room.column l.row l.place l.count

abbrev pub decreases-branches-loop-row : goal.decreases-branches-loop-row
decreases-branches-loop-row l = l.end - l.row
