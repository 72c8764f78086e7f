use Rattle.demands.proofs.ReplyShift.{request-replies}
use Rattle.demands.proofs.request_reply_jobs.Goals as goal

pub returns : goal.returns
returns c = request-replies c.dudowiej_reply_jobs.ensures
