use Rattle.demands.proofs.Demands.{demand-1-read-goal}
use Rattle.demands.proofs.demand_read_goal.Goals as goal

pub returns : goal.returns
returns c = demand-1-read-goal _ _ c.dudowiej_read_goal.ensures
