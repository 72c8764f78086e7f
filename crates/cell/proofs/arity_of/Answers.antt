use mathlib.Core.Path.{sym}
use native.Mathlib.Omega.{arith}
use Rattle.cell.proofs.CellLaws.{arity-below, arity-above}
use Rattle.cell.proofs.arity_of.Goals as goal

pub returns-in_default : goal.returns-in_default
returns-in_default c = sym (arity-below _ (omega arith))

pub returns-in_default-2 : goal.returns-in_default-2
returns-in_default-2 c = sym (arity-above _ (omega arith))
