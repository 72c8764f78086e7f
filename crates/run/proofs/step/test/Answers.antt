use Prim.Native.Nat.{◌≤◌, ◌<◌}
use native.Mathlib.Omega.{arith}
use lib.ListN.{get_or}
use Rattle.run.specs.code.Finds.{any, other, same, unbound}
use Rattle.plannotes.proofs.AloneLaws.{kind-var, kind-symbol}
use Rattle.run.proofs.step.test.Goals as goal

pub returns-then-bound-v : goal.returns-then-bound-v
returns-then-bound-v c =
    let a = c.args in
    let l : a.i < get_or a.until.now a.v 0 =
    omega (arith, c.if-i-wide16.true, c.wide16.ensures) in
    rw c.wide.ensures (same (kind-symbol a.c c.kind.result c.kind.ensures (omega arith)) l c.if-bound-v.true)

pub returns-else-bound-v : goal.returns-else-bound-v
returns-else-bound-v c =
    let a = c.args in
    let l : a.i < get_or a.until.now a.v 0 = omega (arith, c.if-i-wide16.true, c.wide16.ensures) in
    other (kind-symbol a.c c.kind.result c.kind.ensures (omega arith)) l c.if-bound-v.false

pub returns-else-i-wide16 : goal.returns-else-i-wide16
returns-else-i-wide16 c =
    let a = c.args in
    let l : get_or a.until.now a.v 0 ≤ a.i = omega (arith, c.if-i-wide16.false, c.wide16.ensures) in
    unbound (kind-symbol a.c c.kind.result c.kind.ensures (omega arith)) l

pub returns-in_default : goal.returns-in_default
returns-in_default c =
    any (kind-var c.args.c c.kind.result c.kind.ensures (omega arith))
