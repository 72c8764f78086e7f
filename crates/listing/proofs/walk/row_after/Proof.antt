use mathlib.Core.Path.{◌∙◌}
use native.Mathlib.Omega.{arith}
use borrow.Author.Rules.{rules}
use borrow.Author.Tests.{eq-eqb, ne_eqb}
use Rattle.listing.proofs.walk.row_after.Statement.{statement}
use Rattle.listing.proofs.walk.row_after.Tie as tie

returns : tie.Need-returns-then-left-eq1
returns c = rw (eq-eqb c.args.left 1 c.if-left-eq1.true)

mul-row-of : tie.Need-offset_bounds-noted-next
mul-row-of c = omega (arith, c.requires c.if-left-eq1.false)

element-copy-out-row-of : tie.Need-bounds-noted-next
element-copy-out-row-of c = c.requires c.if-left-eq1.false

row-of-requires : tie.Need-row_of-requires
row-of-requires c κs = search rules

wide-requires : tie.Need-wide-requires
wide-requires c κs = search rules

returns-2 : tie.Need-returns
returns-2 c =
    let e = c.before.before.before in
    rw (ne_eqb e.args.left 1 e.if-left-eq1.false) (c.wide.ensures ∙ c.row_of.ensures)

pub row_after_spec : {M : Type 1} → statement M
row_after_spec = tie.close (tie.spec returns mul-row-of element-copy-out-row-of row-of-requires wide-requires returns-2)
