use borrow.Author.Tests.{eq-eqb, ne_eqb}
use Rattle.unfolding.proofs.own.called_at.Statement.{statement}
use Rattle.unfolding.proofs.own.called_at.Tie as tie

-- src/own.rt:28:9
returns : tie.Need-returns-then-places-eq0
returns c = rw (eq-eqb c.args.places 0 c.if-places-eq0.true)

-- src/own.rt:24:1
returns-2 : tie.Need-returns
returns-2 c = rw (ne_eqb c.args.places 0 c.if-places-eq0.false)

pub called_at_spec : {M : Type 1} → statement M
called_at_spec = tie.close (tie.spec returns returns-2)
