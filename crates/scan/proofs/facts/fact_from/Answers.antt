use native.Mathlib.Omega.{arith}
use borrow.Author.Rules.{rules}
use Rattle.std.proofs.lemmas.Result.{err_from_is_err_and}
use Rattle.scan.proofs.FactLaws.{no_more, no-head, open-within, no_arguments, last-small, no_end, fact-fits}
use Rattle.scan.proofs.facts.fact_from.Goals as goal

pub overflow_add-end : goal.overflow_add-end
overflow_add-end c =
    let l = open-within c.args.text.now c.args.at c.args.first c.next_fact.ensures c.in-Open.is in
    search rules

pub read_arguments-requires : goal.read_arguments-requires
read_arguments-requires c =
    let l = open-within c.args.text.now c.args.at c.args.first c.next_fact.ensures c.in-Open.is in
    (omega (arith, l), c.requires.1, c.requires.2)

pub overflow_add-result : goal.overflow_add-result
overflow_add-result c =
    let l = last-small c.args.text.now c.args.at c.args.first c.next_fact.ensures c.in-Open.is c.read_arguments.ensures
    c.in_ok-args-in-Open.was (omega arith) in
    search rules

pub returns-in-End : goal.returns-in-End
returns-in-End c =
    no_more c.args.text.now c.args.at c.args.first c.next_fact.ensures c.in-End.is

pub returns-in-Stop : goal.returns-in-Stop
returns-in-Stop c =
    no-head c.args.text.now c.args.at c.args.first c.next_fact.ensures c.in-Stop.is

pub returns-in_err-args-in-Open : goal.returns-in_err-args-in-Open
returns-in_err-args-in-Open c =
    let p = err_from_is_err_and c.from_residual.result c.from_residual.ensures.1 in
    rw (p.1, p.2)
    (no_arguments c.args.text.now c.args.at c.args.first c.next_fact.ensures c.in-Open.is c.read_arguments.ensures
    c.in_err-args-in-Open.was)

pub returns-in_err-next-in-Open : goal.returns-in_err-next-in-Open
returns-in_err-next-in-Open c =
    let r = c.from_residual-in_err-next-in-Open in
    let p = err_from_is_err_and r.result r.ensures.1 in
    rw (p.1, p.2)
    (no_end c.args.text.now c.args.at c.args.first c.next_fact.ensures c.in-Open.is c.read_arguments.ensures c.in_ok-args-in-Open.was
    c.fact_end.ensures c.in_err-next-in-Open.was)

pub returns-in_ok-next-in-Open : goal.returns-in_ok-next-in-Open
returns-in_ok-next-in-Open c =
    fact-fits c.args.text.now c.args.at c.args.first c.next_fact.ensures c.in-Open.is c.read_arguments.ensures c.in_ok-args-in-Open.was
    c.fact_end.ensures c.in_ok-next-in-Open.was
