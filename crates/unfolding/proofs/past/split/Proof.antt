use native.Mathlib.Omega.{arith}
use borrow.Author.Tests.{lt-ltb, le-ltb}
use Rattle.unfolding.proofs.past.split.Statement.{statement}
use Rattle.unfolding.proofs.past.split.Tie as tie

-- src/past.rt:18:9
returns : tie.Need-returns-then-branches-gt1
returns c = rw (lt-ltb 1 c.args.branches c.if-branches-gt1.true)

-- src/past.rt:14:1
returns-2 : tie.Need-returns
returns-2 c = rw (le-ltb 1 c.args.branches (omega arith))

pub split_spec : {M : Type 1} → statement M
split_spec = tie.close (tie.spec returns returns-2)
