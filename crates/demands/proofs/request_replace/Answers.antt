use Rattle.demands.proofs.Records.{request-207-edit}
use Rattle.demands.proofs.request_replace.Goals as goal

pub returns : goal.returns
returns c = request-207-edit c.dudowiej_replace.ensures
