use Rattle.demands.proofs.Columns.{request-213-check}
use Rattle.demands.proofs.request_check_for.Goals as goal

pub returns : goal.returns
returns c = request-213-check _ _ _ c.dudowiej_check_for.ensures
