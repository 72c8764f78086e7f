use Rattle.demands.proofs.Replies.{request-203-refuses, request-203-says}
use Rattle.demands.proofs.request_replies.Goals as goal

pub returns : goal.returns
returns c = let x = c.dudowiej_replies.ensures in record { replies_refused = request-203-refuses x; says = request-203-says x }
