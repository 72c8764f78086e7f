use native.Mathlib.Omega.{arith}
use borrow.Author.Tests.{eq-eqb, ne_eqb, lt-ltb, le-ltb}
use borrow.Author.Rules.{rules}
use Rattle.state.specs.Flags.{may_in}
use Rattle.state.proofs.FlagsLaws.{lowest}
use Rattle.state.proofs.flags.may.Statement.{statement}
use Rattle.state.proofs.flags.may.Tie as tie

returns : tie.Need-returns-then-named-eq0
unfolding may_in
returns c = rw (eq-eqb c.args.named 0 c.if-named-eq0.true)

returns-2 : tie.Need-returns-then-i-gt63
unfolding may_in
returns-2 c = rw (ne_eqb c.args.named 0 c.if-named-eq0.false, le-ltb c.args.i 64 (omega arith))

shr-result : tie.Need-overflow_shr-result
shr-result c = search rules

returns-3 : tie.Need-returns
unfolding may_in
returns-3 c = rw (ne_eqb c.args.named 0 c.if-named-eq0.false, lt-ltb c.args.i 64 (omega arith), lowest)

pub may_spec : {M : Type 1} → statement M
may_spec = tie.close (tie.spec returns returns-2 shr-result returns-3)
