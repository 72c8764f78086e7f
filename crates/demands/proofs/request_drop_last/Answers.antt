use Rattle.demands.proofs.Records.{request-207-edit}
use Rattle.demands.proofs.request_drop_last.Goals as goal

pub returns : goal.returns
returns c = request-207-edit c.dudowiej_drop_last.ensures
