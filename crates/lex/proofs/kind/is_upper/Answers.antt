use Rattle.std.proofs.Common.{rules}
use borrow.Author.Tests.{eq-eqb, ne_eqb}
use Rattle.grammar.specs.Grammar.{is_upper}
use Rattle.lex.proofs.kind.is_upper.Goals as goal

pub returns-then-byte-eq95 : goal.returns-then-byte-eq95
unfolding is_upper
returns-then-byte-eq95 c = rw (eq-eqb _ _ c.if-byte-eq95.true)

pub returns-else-byte-eq95 : goal.returns-else-byte-eq95
unfolding is_upper
returns-else-byte-eq95 c = rw (ne_eqb _ _ c.if-byte-eq95.false) (search rules)
