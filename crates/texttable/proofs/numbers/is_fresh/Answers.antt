use native.Mathlib.Omega.{arith}
use mathlib.Core.Path.{sym, ◌∙◌}
use borrow.Author.Tests.{ne_eqb}
use Rattle.texttable.proofs.NumberLaws.{long-not-fresh, fresh-is}
use Rattle.texttable.proofs.numbers.is_fresh.Goals as goal

pub returns-then-end-start-eq1 : goal.returns-then-end-start-eq1
returns-then-end-start-eq1 c =
    let a = c.args in
    sym (fresh-is a.text.now a.start a.end (omega arith) (omega arith) (omega arith))

pub returns-else-end-start-eq1 : goal.returns-else-end-start-eq1
returns-else-end-start-eq1 c =
    let a = c.args in
    ne_eqb _ _ c.if-end-start-eq1.false ∙ sym (long-not-fresh a.text.now a.start a.end (omega arith) c.if-end-start-eq1.false)
