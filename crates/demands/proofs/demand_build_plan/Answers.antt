use Rattle.demands.proofs.Records.{builds-from}
use Rattle.demands.proofs.demand_build_plan.Goals as goal

pub returns : goal.returns
returns c = builds-from c.dudowiej_build_plan.ensures
