use Prim.Native.Nat.{◌/◌, ◌^◌}
use lib.Bits.{and_mask}
use Rattle.cell.proofs.args.Statement.{statement}
use Rattle.cell.proofs.args.Tie as tie

returns : tie.Need-returns
returns c = and_mask (c.args.c / 2 ^ 16) 3

pub args_spec : {M : Type 1} → statement M
args_spec = tie.close (tie.spec returns)
