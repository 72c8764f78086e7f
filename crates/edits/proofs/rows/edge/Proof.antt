use borrow.Author.Tests.{lt-ltb, le-ltb}
use borrow.Author.Rules.{rules}
use Rattle.edits.proofs.rows.edge.Statement.{statement}
use Rattle.edits.proofs.rows.edge.Tie as tie

mul-result : tie.Need-offset_bounds-starts-r
mul-result c = search rules

element-copy-out-result : tie.Need-bounds-starts-r
element-copy-out-result c = search rules

returns : tie.Need-returns-then-r-count
returns c = rw (lt-ltb _ _ c.if-r-count.true)

returns-2 : tie.Need-returns-else-r-count
returns-2 c = rw (le-ltb _ _ c.if-r-count.false)

pub edge_spec : {M : Type 1} → statement M
edge_spec = tie.close (tie.spec mul-result element-copy-out-result returns returns-2)
