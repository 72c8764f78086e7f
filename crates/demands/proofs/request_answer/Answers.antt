use Rattle.demands.proofs.Asking.{ask-answer, ask-back}
use Rattle.demands.proofs.request_answer.Goals as goal

pub returns : goal.returns
returns c = let x = c.dudowiej_put_answer.ensures in record { puts_answer = ask-answer x; reads_back = ask-back x }
