use mathlib.Core.Path.{sym, ◌∙◌}
use native.Mathlib.Omega.{arith}
use borrow.Author.Tests.{not-true, not-false}
use Rattle.lex.proofs.FactLaws.{no-fact, head-open, head-alone}
use Rattle.lex.proofs.fact.head_at.Goals as goal

pub returns-then-not-is_lower : goal.returns-then-not-is_lower
returns-then-not-is_lower c =
    no-fact c.args.text.now c.args.at (omega arith) c.requires.1 (sym c.is_lower.ensures ∙ not-true _ c.if-not-is_lower.true-raw)

pub returns-then-stands : goal.returns-then-stands
returns-then-stands c =
    let e = c.word_end-e in
    head-open c.args.text.now c.args.at e.result (omega arith) (sym c.is_lower.ensures ∙ not-false _ c.if-not-is_lower.false-raw) e.ensures
    (sym c.stands.ensures ∙ c.if-stands.true)

pub returns : goal.returns
returns c =
    let e = c.word_end-e in
    head-alone c.args.text.now c.args.at e.result (omega arith) (sym c.is_lower.ensures ∙ not-false _ c.if-not-is_lower.false-raw) e.ensures
    (sym c.stands.ensures ∙ c.if-stands.false)
