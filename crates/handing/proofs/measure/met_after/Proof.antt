use Rattle.handing.proofs.MeasureLaws.{met-new, met-old}
use borrow.Author.Rules.{rules}
use Rattle.handing.proofs.measure.met_after.Statement.{statement}
use Rattle.handing.proofs.measure.met_after.Tie as tie

-- src/measure.rt:90:16
add-result : tie.Need-overflow_add-result
add-result c = search rules

-- src/measure.rt:90:9
returns : tie.Need-returns-then-c-most
returns c = let a = c.args in met-new a.c a.most c.if-c-most.true

-- src/measure.rt:85:1
returns-2 : tie.Need-returns
returns-2 c = let a = c.args in met-old a.c a.most c.if-c-most.false

pub met_after_spec : {M : Type 1} → statement M
met_after_spec = tie.close (tie.spec add-result returns returns-2)
