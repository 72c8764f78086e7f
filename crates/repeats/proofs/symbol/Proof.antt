-- `symbol` (src/lib.rt).
use native.Mathlib.Omega.{arith}
use borrow.Author.Rules.{rules}
use borrow.Author.Tests.{lt-ltb, le-ltb}
use Rattle.repeats.proofs.symbol.Statement.{statement}
use Rattle.repeats.proofs.symbol.Tie as tie

wide16-requires : tie.Need-wide16-requires
wide16-requires c κs = search rules

returns : tie.Need-returns-then-at-wide16
returns c =
    let t = c.before in
    rw (lt-ltb t.args.at t.args.until (omega arith))

returns-2 : tie.Need-returns-else-at-wide16
returns-2 c =
    let t = c.before in
    rw (le-ltb t.args.at t.args.until (omega arith))

pub symbol_spec : {M : Type 1} → statement M
symbol_spec = tie.close (tie.spec wide16-requires returns returns-2)
