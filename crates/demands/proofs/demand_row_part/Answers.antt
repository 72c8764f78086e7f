use Rattle.demands.proofs.Demands.{demand-1-row-part}
use Rattle.demands.proofs.demand_row_part.Goals as goal

pub returns : goal.returns
returns c = demand-1-row-part _ _ c.row.ensures
