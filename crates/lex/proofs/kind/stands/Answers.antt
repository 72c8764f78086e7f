use mathlib.Core.Path.{sym, ◌∙◌}
use borrow.Author.Tests.{le-ltb}
use Rattle.lex.proofs.ByteLaws.{stands_at_lem, stands-end}
use Rattle.lex.proofs.kind.stands.Goals as goal

pub returns-then-at-text : goal.returns-then-at-text
returns-then-at-text c = let a = c.args in sym (stands_at_lem a.text.now a.at c.if-at-text.true a.byte)

pub returns-else-at-text : goal.returns-else-at-text
returns-else-at-text c = let a = c.args in le-ltb _ _ c.if-at-text.false ∙ sym (stands-end a.text.now a.at a.byte c.if-at-text.false)
