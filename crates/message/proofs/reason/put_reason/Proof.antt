use Rattle.message.specs.Message.{reason_of}
use Rattle.message.proofs.ReasonLaws.{facts-by-reason, goal-by-reason}
use borrow.Author.Rules.{rules}
use Rattle.message.proofs.reason.put_reason.Statement.{statement}
use Rattle.message.proofs.reason.put_reason.Tie as tie

number-of-requires : tie.Need-number_of-number-requires
number-of-requires c κs = search rules

enum_told : tie.Need-enum_told-1
enum_told c = search rules

put-facts-reason-requires : tie.Need-put_facts_reason-requires
put-facts-reason-requires c κs = search rules

enum-told-2 : tie.Need-enum_told-in-Goal
enum-told-2 c = search rules

put-goal-reason-requires : tie.Need-put_goal_reason-requires
put-goal-reason-requires c κs = search rules

same_length : tie.Need-shape_of-out-in-Facts
same_length c = search rules

returns : tie.Need-returns-in-Facts
unfolding reason_of
returns c =
    rw (c.in-Facts.is, ← facts-by-reason _ _, ← c.number_of-number.ensures.0) c.put_facts_reason.ensures

same-length-2 : tie.Need-shape_of-out-in-Goal
same-length-2 c = search rules

returns-2 : tie.Need-returns-in-Goal
unfolding reason_of
returns-2 c =
    rw (c.in-Goal.is, ← goal-by-reason _ _, ← c.number_of-number.ensures.0) c.put_goal_reason.ensures

pub put_reason_spec : {M : Type 1} → statement M
put_reason_spec =
    tie.close
    (tie.spec
    number-of-requires
    enum_told
    put-facts-reason-requires
    enum-told-2
    put-goal-reason-requires
    same_length
    returns
    same-length-2
    returns-2)
