use Prim.Native.Nat.{◌+◌}
use mathlib.Core.Path.{refl, sym, ◌∙◌, ap}
use native.Mathlib.Omega.{arith}
use lib.ListN.{drop}
use Rattle.handing.specs.code.Lines.{met_in}
use Rattle.handing.proofs.MeasureLaws.{met-on, met-end}
use Rattle.handing.proofs.measure.variables.Goals as goal

pub loop-c-init : goal.loop-c-init
loop-c-init c = (omega arith, omega arith, refl)

pub loop-c-preserved : goal.loop-c-preserved
loop-c-preserved c =
    let a = c.args in
    let l = c.loop-c in
    let m = c.met_after-most.ensures in
    (omega arith, omega arith, ap (met_in (drop (l.c-index + 1) a.head.now)) m.0 ∙ sym (met-on a.head.now l.c-index l.most (omega arith)) ∙ l.invariant.2)

pub returns : goal.returns
returns c =
    let a = c.args in
    let l = c.loop-c in
    sym (met-end a.head.now l.c-index l.most (omega arith)) ∙ l.invariant.2
