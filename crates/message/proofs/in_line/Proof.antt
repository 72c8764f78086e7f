use Rattle.message.specs.Message.{in_line}
use borrow.Author.Tests.{eq-eqb, ne_eqb}
use Rattle.message.proofs.in_line.Statement.{statement}
use Rattle.message.proofs.in_line.Tie as tie

returns : tie.Need-returns-then-byte-eq10
unfolding in_line
returns c = rw (eq-eqb _ _ c.if-byte-eq10.true)

returns-2 : tie.Need-returns-then-byte-eq13
unfolding in_line
returns-2 c = rw (ne_eqb _ _ c.if-byte-eq10.false, eq-eqb _ _ c.if-byte-eq13.true)

returns-3 : tie.Need-returns
unfolding in_line
returns-3 c = rw (ne_eqb _ _ c.if-byte-eq10.false, ne_eqb _ _ c.if-byte-eq13.false)

pub in_line_spec : {M : Type 1} → statement M
in_line_spec = tie.close (tie.spec returns returns-2 returns-3)
