use Rattle.demands.proofs.Records.{request-207-work-out}
use Rattle.demands.proofs.request_work_out.Goals as goal

pub returns : goal.returns
returns c = request-207-work-out c.dudowiej_work_out.ensures
