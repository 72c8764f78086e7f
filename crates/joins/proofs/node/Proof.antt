-- `node` (src/lib.rt).
use native.Mathlib.Omega.{arith}
use lib.Bits.{and_mask}
use Rattle.joins.proofs.node.Statement.{statement}
use Rattle.joins.proofs.node.Tie as tie

returns : tie.Need-returns
returns c = let e = and_mask c.args.x 6 in (omega arith, λ h. omega arith, omega arith)

pub node_spec : {M : Type 1} → statement M
node_spec = tie.close (tie.spec returns)
