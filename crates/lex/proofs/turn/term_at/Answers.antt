use mathlib.Core.Path.{sym, ◌∙◌}
use native.Mathlib.Omega.{arith}
use Rattle.lex.proofs.ByteLaws.{digit-least}
use Rattle.lex.proofs.TurnLaws.{term-ends, name-turn, open_turn, variable-turn, no-term, number-turn, minus-turn}
use Rattle.lex.proofs.turn.term_at.Goals as goal

pub returns-then-text-at : goal.returns-then-text-at
returns-then-text-at c = term-ends c.args.text.now c.args.at c.requires c.if-text-at.true

pub returns-then-stands : goal.returns-then-stands
returns-then-stands c =
    let e = c.word_end-e in
    open_turn c.args.text.now c.args.at c.requires (omega arith) e.result (sym c.is_lower.ensures ∙ c.if-is_lower.true) e.ensures
    (sym c.stands.ensures ∙ c.if-stands.true)

pub returns-then-is_lower : goal.returns-then-is_lower
returns-then-is_lower c =
    let e = c.word_end-e in
    name-turn c.args.text.now c.args.at c.requires (omega arith) e.result (sym c.is_lower.ensures ∙ c.if-is_lower.true) e.ensures
    (sym c.stands.ensures ∙ c.if-stands.false)

pub returns-then-is_upper : goal.returns-then-is_upper
returns-then-is_upper c =
    variable-turn c.args.text.now c.args.at c.requires (omega arith) c.word_end.result
    (sym c.is_lower.ensures ∙ c.if-is_lower.false)
    (sym c.is_upper.ensures ∙ c.if-is_upper.true)
    c.word_end.ensures

pub overflow_sub-byte : goal.overflow_sub-byte
overflow_sub-byte c = omega (arith, digit-least _ (sym c.is_digit.ensures ∙ c.if-is_digit.true))

pub number_from-requires : goal.number_from-requires
number_from-requires c = (omega arith, omega (arith, digit-least _ (sym c.is_digit.ensures ∙ c.if-is_digit.true), c.from.ensures))

pub returns-then-is_digit : goal.returns-then-is_digit
returns-then-is_digit c =
    number-turn c.args.text.now c.args.at c.requires (omega arith) c.number_from.result
    (sym c.is_lower.ensures ∙ c.if-is_lower.false)
    (sym c.is_upper.ensures ∙ c.if-is_upper.false)
    (sym c.is_digit.ensures ∙ c.if-is_digit.true)
    c.from.ensures
    c.number_from.ensures

pub returns-then-byte-eq45 : goal.returns-then-byte-eq45
returns-then-byte-eq45 c = minus-turn c.args.text.now c.args.at c.requires (omega arith) c.negative_at.result c.if-byte-eq45.true c.negative_at.ensures

pub returns : goal.returns
returns c =
    no-term c.args.text.now c.args.at c.requires (omega arith)
    (sym c.is_lower.ensures ∙ c.if-is_lower.false)
    (sym c.is_upper.ensures ∙ c.if-is_upper.false)
    (sym c.is_digit.ensures ∙ c.if-is_digit.false)
    c.if-byte-eq45.false
