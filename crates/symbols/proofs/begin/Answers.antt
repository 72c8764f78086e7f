use mathlib.Core.Bool.{true}
use Rattle.symbols.specs.Next as next
use Rattle.symbols.proofs.NextLaws.{head-is}
use borrow.Author.Rules.{rules}
use Rattle.symbols.proofs.begin.Goals as goal

pub overflow_add-at : goal.overflow_add-at
overflow_add-at c =
    let h = head-is c.args.text.now 0 true c.next_fact.ensures
    c.in-Open.is in
    search rules

pub returns-in-Open : goal.returns-in-Open
returns-in-Open c =
    let t = c.args.text.now in
    next.opens (head-is t 0 true c.next_fact.ensures c.in-Open.is)

pub returns-in-End : goal.returns-in-End
returns-in-End c =
    let t = c.args.text.now in
    next.empty (head-is t 0 true c.next_fact.ensures c.in-End.is)

pub returns-in-Stop : goal.returns-in-Stop
returns-in-Stop c =
    let t = c.args.text.now in
    next.no-fact (head-is t 0 true c.next_fact.ensures c.in-Stop.is)
