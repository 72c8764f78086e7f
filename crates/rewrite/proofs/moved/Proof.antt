use mathlib.Core.Path.{sym, ◌∙◌}
use Rattle.cell.proofs.CellLaws.{is-var, not-var}
use borrow.Author.Rules.{rules}
use Rattle.rewrite.proofs.moved.Statement.{statement}
use Rattle.rewrite.proofs.moved.Tie as tie

kind-requires : tie.Need-kind-requires
kind-requires c κs = search rules

add-result : tie.Need-overflow_add-result
add-result c = search rules

returns : tie.Need-returns-then-kind-eq0
returns c = let k = c.kind.ensures in rw (is-var _ (sym k ∙ c.if-kind-eq0.true))

returns-2 : tie.Need-returns
returns-2 c = let k = c.kind.ensures in rw (not-var _ (λ z. c.if-kind-eq0.false (k ∙ z)))

pub moved_spec : {M : Type 1} → statement M
moved_spec = tie.close (tie.spec kind-requires add-result returns returns-2)
