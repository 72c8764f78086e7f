use Rattle.demands.proofs.Asking.{ask-goal}
use Rattle.demands.proofs.request_goal.Goals as goal

pub returns : goal.returns
returns c = ask-goal c.dudowiej_read_goal_text.ensures
