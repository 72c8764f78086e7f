use Rattle.cell.proofs.Pack.{tagged}
use Rattle.cell.proofs.number_cell.Statement.{statement}
use Rattle.cell.proofs.number_cell.Tie as tie

returns : tie.Need-returns
returns c = tagged 2 c.args.n

pub number_cell_spec : {M : Type 1} → statement M
number_cell_spec = tie.close (tie.spec returns)
