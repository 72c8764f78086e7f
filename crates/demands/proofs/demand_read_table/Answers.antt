use Rattle.demands.proofs.Demands.{demand-1-read-table}
use Rattle.demands.proofs.demand_read_table.Goals as goal

pub returns : goal.returns
returns c = demand-1-read-table _ c.dudowiej_read_table.ensures
