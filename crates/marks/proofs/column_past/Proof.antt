use native.Mathlib.Omega.{arith}
use borrow.Author.Tests.{ne_eqb}
use borrow.Author.Rules.{rules}
use Rattle.marks.proofs.column_past.Statement.{statement}
use Rattle.marks.proofs.column_past.Tie as tie

add-result : tie.Need-overflow_add-result
add-result c = search rules

returns : tie.Need-returns-then-byte-eq10
returns c = (rw c.if-byte-eq10.true, omega arith)

returns-2 : tie.Need-returns-else-byte-eq10
returns-2 c = (rw (ne_eqb _ _ c.if-byte-eq10.false), omega arith)

pub column_past_spec : {M : Type 1} → statement M
column_past_spec = tie.close (tie.spec add-result returns returns-2)
