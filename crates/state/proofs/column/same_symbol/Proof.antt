use native.Mathlib.Omega.{arith}
use mathlib.Core.Path.{sym}
use Rattle.state.proofs.ColumnLaws.{agree-other, agree-variable, agree-symbol}
use borrow.Author.Rules.{rules}
use Rattle.state.proofs.column.same_symbol.Statement.{statement}
use Rattle.state.proofs.column.same_symbol.Tie as tie

returns : tie.Need-returns-then-c-d
returns c = let a = c.args in sym (agree-other a.c a.d c.if-c-d.true)

kind-requires : tie.Need-kind-requires
kind-requires c κs = search rules

returns-2 : tie.Need-returns-in-1-to-3
returns-2 c = let a = c.args in sym (agree-symbol a.c a.d c.if-c-d.false (λ k. omega arith))

returns-3 : tie.Need-returns-in_default
returns-3 c = let a = c.args in sym (agree-variable a.c a.d c.if-c-d.false (omega arith))

-- a cell has 32 bits, so no kind is above 3
returns-4 : tie.Need-returns-in_default-2
returns-4 c = absurd (omega arith)

pub same_symbol_spec : {M : Type 1} → statement M
same_symbol_spec = tie.close (tie.spec returns kind-requires returns-2 returns-3 returns-4)
