use mathlib.Core.Path.{refl}
use Rattle.cell.proofs.kind.Statement.{statement}
use Rattle.cell.proofs.kind.Tie as tie

returns : tie.Need-returns
returns c = refl

pub kind_spec : {M : Type 1} → statement M
kind_spec = tie.close (tie.spec returns)
