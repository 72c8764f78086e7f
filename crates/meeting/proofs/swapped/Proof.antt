-- `swapped` meets its contract.
use native.Mathlib.Omega.{arith}
use borrow.Author.Tests.{eq-eqb, ne_eqb}
use Rattle.meeting.proofs.swapped.Statement.{statement}
use Rattle.meeting.proofs.swapped.Tie as tie

returns : tie.Need-returns-then-x-v
returns c = rw (eq-eqb c.args.x c.args.v (omega arith))

returns-2 : tie.Need-returns-else-x-v
returns-2 c = rw (ne_eqb c.args.x c.args.v (λ e. (let z : ⊥ = omega arith in z)))

pub swapped_spec : {M : Type 1} → statement M
swapped_spec = tie.close (tie.spec returns returns-2)
