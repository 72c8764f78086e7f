use mathlib.Core.Path.{sym, ap, ◌∙◌}
use native.Mathlib.Omega.{arith}
use Rattle.cell.specs.Same.{same}
use Rattle.goaltext.proofs.NameLaws.{find-here, find-on, find_none}
use Rattle.goaltext.proofs.names.find.Goals as goal

pub returns-then-same_bytes : goal.returns-then-same_bytes
returns-then-same_bytes c =
    let a = c.args in
    let e = ap (same a.word.now) (sym c.word.ensures) ∙ sym c.same_bytes.ensures ∙ c.if-same_bytes.true in
    omega (arith, c.loop-i.invariant, find-here a.text.now a.names.now a.word.now c.loop-i.i (omega arith) e)

pub loop-i-preserved : goal.loop-i-preserved
loop-i-preserved c =
    let a = c.args in
    let e = ap (same a.word.now) (sym c.word.ensures) ∙ sym c.same_bytes.ensures ∙ c.if-same_bytes.false in
    omega (arith, c.loop-i.invariant, find-on a.text.now a.names.now a.word.now c.loop-i.i (omega arith) e)

pub returns : goal.returns
returns c =
    let a = c.args in
    omega (arith, c.loop-i.invariant, find_none a.text.now a.names.now a.word.now c.loop-i.i (omega arith))
