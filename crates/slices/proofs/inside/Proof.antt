use mathlib.Core.Path.{sym}
use native.Mathlib.Omega.{arith}
use borrow.Author.Rules.{rules}
use Rattle.slices.proofs.SliceLaws.{part-late, part_none, part-over}
use Rattle.slices.proofs.inside.Statement.{statement}
use Rattle.slices.proofs.inside.Tie as tie

returns : tie.Need-returns-then-n-start
returns c =
    let a = c.args in
    record { from = omega arith; within = omega arith; same = λ l e. part-late a.start a.end l (omega arith) }

returns-2 : tie.Need-returns-then-end-start
returns-2 c =
    let a = c.args in
    record { from = omega arith; within = omega arith; same = λ l e. part_none a.start a.end l (omega arith) }

returns-3 : tie.Need-returns-then-n-end
returns-3 c =
    let a = c.args in
    record { from = omega arith; within = omega arith; same = λ l e. rw (sym e) (part-over a.start a.end l (omega arith)) }

returns-4 : tie.Need-returns
returns-4 c = search rules

pub inside_spec : {M : Type 1} → statement M
inside_spec = tie.close (tie.spec returns returns-2 returns-3 returns-4)
