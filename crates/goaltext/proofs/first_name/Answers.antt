use Rattle.goaltext.proofs.StepLaws.{name-open, name-none, not_end, not-stop}
use Rattle.goaltext.proofs.first_name.Goals as goal

pub returns-in-Open : goal.returns-in-Open
returns-in-Open c =
    name-open c.args.text.now c.next_fact.ensures _ _ c.in-Open.is

pub returns-in-End : goal.returns-in-End
returns-in-End c =
    name-none c.args.text.now c.next_fact.ensures c.in-End.is not_end

pub returns-in-Stop : goal.returns-in-Stop
returns-in-Stop c =
    name-none c.args.text.now c.next_fact.ensures c.in-Stop.is (not-stop _)
