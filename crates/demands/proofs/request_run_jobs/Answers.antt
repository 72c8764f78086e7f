use Rattle.demands.proofs.Demands.{request-202}
use Rattle.demands.proofs.Knowing.{request-214-sums}
use Rattle.demands.proofs.request_run_jobs.Goals as goal

pub returns : goal.returns
returns c = let x = c.dudowiej_run_jobs.ensures in (request-202 x, request-214-sums x)
