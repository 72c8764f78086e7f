use native.Mathlib.Omega.{arith}
use borrow.Author.Tests.{ne_eqb}
use Rattle.marks.proofs.feed.Statement.{statement}
use Rattle.marks.proofs.feed.Tie as tie

returns : tie.Need-returns-then-byte-eq10
returns c = (rw c.if-byte-eq10.true, omega arith)

returns-2 : tie.Need-returns-else-byte-eq10
returns-2 c = (rw (ne_eqb _ _ c.if-byte-eq10.false), omega arith)

pub feed_spec : {M : Type 1} → statement M
feed_spec = tie.close (tie.spec returns returns-2)
