use Rattle.demands.proofs.Demands.{demand-1-run, demand-2, demand-2-tried, demand-3-run}
use Rattle.demands.proofs.demand_run_plan.Goals as goal

pub returns : goal.returns
returns c =
    let x = c.dudowiej_run_plan.ensures in
    record { demand1run = demand-1-run x; demand2 = demand-2 x; tried_few = demand-2-tried x; demand3run = demand-3-run x }
