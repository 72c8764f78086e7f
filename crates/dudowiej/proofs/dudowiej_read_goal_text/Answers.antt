use Rattle.dudowiej.proofs.CodeLaws.{coded_by, goal-text-by}
use Rattle.dudowiej.proofs.Small.{goal-text-small}
use Rattle.dudowiej.proofs.dudowiej_read_goal_text.Goals as goal

pub returns : goal.returns
returns c =
    let r = c.read_goal_text in
    record { answer = r.result; into = r.ensures; code = coded_by (goal-text-by r.result) (goal-text-small r.ensures) c.as_number.ensures }
