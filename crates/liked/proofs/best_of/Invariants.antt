use Rattle.std.proofs.Common.{◌+◌, ◌≤◌}
use Rattle.liked.specs.code.Search.{BestBelow}
use Rattle.liked.proofs.best_of.Given as goal

abbrev pub invariant-loop-mask : goal.invariant-loop-mask
invariant-loop-mask l =
    (1 ≤ l.mask) × (l.mask + 1 ≤ l.sets) × (l.sets ≤ 256) × BestBelow l.by l.cells l.goals l.list l.mask l.best.mask l.best.tried
