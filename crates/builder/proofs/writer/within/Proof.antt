use native.Mathlib.Omega.{arith}
use borrow.Author.Tests.{lt-ltb, le-ltb}
use Rattle.builder.proofs.writer.within.Statement.{statement}
use Rattle.builder.proofs.writer.within.Tie as tie

returns : tie.Need-returns-then-place-opens
returns c = let a = c.args in rw (lt-ltb a.place a.opens (omega arith))

returns-2 : tie.Need-returns-else-place-opens
returns-2 c = let a = c.args in rw (le-ltb a.place a.opens (omega arith))

pub within_spec : {M : Type 1} → statement M
within_spec = tie.close (tie.spec returns returns-2)
