use Rattle.textlines.proofs.LineLaws.{mark-more}
use native.Mathlib.Omega.{arith}
use borrow.Author.Rules.{rules}
use Rattle.textlines.proofs.lines.mark.Statement.{statement}
use Rattle.textlines.proofs.lines.mark.Tie as tie

returns : tie.Need-returns-then-left-eq0
returns c = search rules

returns-2 : tie.Need-returns-else-left-eq0
returns-2 c = mark-more c.args.left (λ e. omega arith)

pub mark_spec : {M : Type 1} → statement M
mark_spec = tie.close (tie.spec returns returns-2)
