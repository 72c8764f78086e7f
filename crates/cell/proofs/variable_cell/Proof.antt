use lib.Bits.{and_mask}
use Rattle.cell.proofs.variable_cell.Statement.{statement}
use Rattle.cell.proofs.variable_cell.Tie as tie

returns : tie.Need-returns
returns c = and_mask c.args.n 16

pub variable_cell_spec : {M : Type 1} → statement M
variable_cell_spec = tie.close (tie.spec returns)
