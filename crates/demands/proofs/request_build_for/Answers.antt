use Rattle.demands.proofs.Columns.{request-213-build}
use Rattle.demands.proofs.request_build_for.Goals as goal

pub returns : goal.returns
returns c = request-213-build c.dudowiej_build_for.ensures
