use Rattle.demands.proofs.Texts.{request-201}
use Rattle.demands.proofs.request_read_text.Goals as goal

pub returns : goal.returns
returns c = request-201 c.dudowiej_read_text.ensures
