use mathlib.Core.Path.{sym}
use native.Mathlib.Omega.{arith}
use lib.Seq.{set_out}
use borrow.Author.Rules.{rules}
use Rattle.tally.proofs.one_more.Goals as goal

pub returns-then-row-fits : goal.returns-then-row-fits
returns-then-row-fits c = cc

pub returns-else-row-fits : goal.returns-else-row-fits
returns-else-row-fits c = sym (set_out _ _ _ (omega arith))
