use mathlib.Core.Path.{sym, ◌∙◌}
use Rattle.lex.proofs.ByteLaws.{stands-within}
use Rattle.lex.proofs.FactLaws.{full-stop, no_stop}
use borrow.Author.Rules.{rules}
use Rattle.lex.proofs.fact.fact_end.Goals as goal

pub overflow_add-result : goal.overflow_add-result
overflow_add-result c =
    let l = stands-within c.args.text.now c.gap_end-p.result 46 (sym c.stands.ensures ∙ c.if-stands.true) in
    search rules

pub returns-then-stands : goal.returns-then-stands
returns-then-stands c =
    let g = c.gap_end-p in
    full-stop c.args.text.now c.args.at g.result g.ensures (sym c.stands.ensures ∙ c.if-stands.true)

pub returns : goal.returns
returns c =
    let g = c.gap_end-p in
    no_stop c.args.text.now c.args.at g.result g.ensures (sym c.stands.ensures ∙ c.if-stands.false)
