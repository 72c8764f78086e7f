use Rattle.demands.proofs.Knowing.{request-214}
use Rattle.demands.proofs.request_run_plan.Goals as goal

pub returns : goal.returns
returns c = request-214 c.dudowiej_run_plan-first.ensures c.dudowiej_run_plan-second.ensures
