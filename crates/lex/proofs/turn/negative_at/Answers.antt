use mathlib.Core.Path.{sym, ◌∙◌}
use native.Mathlib.Omega.{arith}
use Rattle.lex.proofs.ByteLaws.{digit-least}
use Rattle.lex.proofs.TurnLaws.{minus-ends, minus-digit, minus-none}
use Rattle.lex.proofs.turn.negative_at.Goals as goal

pub returns-then-text-next : goal.returns-then-text-next
returns-then-text-next c = minus-ends c.args.text.now c.args.next c.requires c.if-text-next.true

pub overflow_sub-byte : goal.overflow_sub-byte
overflow_sub-byte c = omega (arith, digit-least _ (sym c.is_digit.ensures ∙ c.if-is_digit.true))

pub number_from-requires : goal.number_from-requires
number_from-requires c = (omega arith, omega (arith, digit-least _ (sym c.is_digit.ensures ∙ c.if-is_digit.true), c.from.ensures))

pub returns-then-is_digit : goal.returns-then-is_digit
returns-then-is_digit c =
    minus-digit c.args.text.now c.args.next (omega arith) c.number_from.result (sym c.is_digit.ensures ∙ c.if-is_digit.true) c.from.ensures
    c.number_from.ensures

pub returns : goal.returns
returns c = minus-none c.args.text.now c.args.next (omega arith) (sym c.is_digit.ensures ∙ c.if-is_digit.false)
