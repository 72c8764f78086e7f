use lib.Bits.{and_mask}
use Rattle.cell.proofs.number.Statement.{statement}
use Rattle.cell.proofs.number.Tie as tie

returns : tie.Need-returns
returns c = and_mask c.args.c 16

pub number_spec : {M : Type 1} → statement M
number_spec = tie.close (tie.spec returns)
