use Rattle.cell.proofs.Pack.{packed}
use Rattle.cell.proofs.name_cell.Statement.{statement}
use Rattle.cell.proofs.name_cell.Tie as tie

returns : tie.Need-returns
returns c = packed 1 c.args.a c.args.n

pub name_cell_spec : {M : Type 1} → statement M
name_cell_spec = tie.close (tie.spec returns)
