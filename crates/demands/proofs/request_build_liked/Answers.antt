use Rattle.demands.proofs.Liked.{request-liked}
use Rattle.demands.proofs.request_build_liked.Goals as goal

pub returns : goal.returns
returns c = request-liked c.dudowiej_build_liked.ensures
