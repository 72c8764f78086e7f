use Rattle.demands.proofs.Demands.{demand-1-row}
use Rattle.demands.proofs.demand_row.Goals as goal

pub returns : goal.returns
returns c = demand-1-row _ _ c.dudowiej_row.ensures
