use mathlib.Core.Path.{sym, ◌∙◌}
use Rattle.grammar.specs.Grammar.{is_word}
use Rattle.lex.proofs.kind.is_word.Goals as goal

pub returns-then-is_lower : goal.returns-then-is_lower
unfolding is_word
returns-then-is_lower c = rw (sym c.is_lower.ensures ∙ c.if-is_lower.true) c.if-is_lower.true

pub returns-then-is_upper : goal.returns-then-is_upper
unfolding is_word
returns-then-is_upper c =
    rw (sym c.is_lower.ensures ∙ c.if-is_lower.false, sym c.is_upper.ensures ∙ c.if-is_upper.true) c.if-is_upper.true

pub returns-else-is_upper : goal.returns-else-is_upper
unfolding is_word
returns-else-is_upper c =
    rw (sym c.is_lower.ensures ∙ c.if-is_lower.false, sym c.is_upper.ensures ∙ c.if-is_upper.false) c.is_digit.ensures
