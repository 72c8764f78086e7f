use Prim.Native.Nat.{◌/◌, ◌^◌}
use lib.Bits.{and_mask}
use Rattle.cell.proofs.middle.Statement.{statement}
use Rattle.cell.proofs.middle.Tie as tie

returns : tie.Need-returns
returns c = and_mask (c.args.c / 2 ^ 16) 14

pub middle_spec : {M : Type 1} → statement M
middle_spec = tie.close (tie.spec returns)
