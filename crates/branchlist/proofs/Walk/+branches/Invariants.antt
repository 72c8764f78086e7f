use Rattle.std.proofs.Common.{◌-◌}
use Rattle.branchlist.proofs.Walk.+branches.Given as goal

abbrev pub decreases-branches : goal.decreases-branches
decreases-branches l = 33 - l.depth
