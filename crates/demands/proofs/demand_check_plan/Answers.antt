use Rattle.demands.proofs.Demands.{demand-1-check, demand-3-check}
use Rattle.demands.proofs.demand_check_plan.Goals as goal

pub returns : goal.returns
returns c = let e = c.dudowiej_check_plan.ensures in record { demand1check = demand-1-check _ _ e; demand3check = demand-3-check _ _ e }
