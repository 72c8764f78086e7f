use mathlib.Core.Path.{refl}
use Rattle.cell.proofs.high.Statement.{statement}
use Rattle.cell.proofs.high.Tie as tie

returns : tie.Need-returns
returns c = refl

pub high_spec : {M : Type 1} → statement M
high_spec = tie.close (tie.spec returns)
