use Rattle.demands.proofs.Clauses.{request-210-refuses, request-210-hands}
use Rattle.demands.proofs.request_clauses.Goals as goal

pub returns : goal.returns
returns c = let x = c.dudowiej_clauses.ensures in record { clauses_refused = request-210-refuses x; hands_back = request-210-hands x }
