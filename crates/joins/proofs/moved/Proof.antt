-- `moved` (src/lib.rt).
use native.Mathlib.Omega.{arith}
use borrow.Author.Tests.{eq-eqb, ne_eqb}
use Rattle.joins.proofs.moved.Statement.{statement}
use Rattle.joins.proofs.moved.Tie as tie

returns : tie.Need-returns-then-z-x
returns c = rw (eq-eqb c.args.z c.args.x (omega arith))

returns-2 : tie.Need-returns-else-z-x
returns-2 c = rw (ne_eqb c.args.z c.args.x (λ e. (let z : ⊥ = omega arith in z)))

pub moved_spec : {M : Type 1} → statement M
moved_spec = tie.close (tie.spec returns returns-2)
