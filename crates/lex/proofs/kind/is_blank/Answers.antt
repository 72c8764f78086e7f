use borrow.Author.Tests.{eq-eqb, ne_eqb}
use Rattle.grammar.specs.Reader.{is_blank}
use Rattle.lex.proofs.kind.is_blank.Goals as goal

pub returns-then-byte-eq32 : goal.returns-then-byte-eq32
unfolding is_blank
returns-then-byte-eq32 c = rw (eq-eqb _ _ c.if-byte-eq32.true)

pub returns-then-byte-eq10 : goal.returns-then-byte-eq10
unfolding is_blank
returns-then-byte-eq10 c = rw (ne_eqb _ _ c.if-byte-eq32.false, eq-eqb _ _ c.if-byte-eq10.true)

pub returns-else-byte-eq10 : goal.returns-else-byte-eq10
unfolding is_blank
returns-else-byte-eq10 c = rw (ne_eqb _ _ c.if-byte-eq32.false, ne_eqb _ _ c.if-byte-eq10.false)
