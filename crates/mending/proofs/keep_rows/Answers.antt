use mathlib.Core.Path.{refl}
use native.Mathlib.Omega.{arith}
use Rattle.mending.proofs.KeepLaws.{keep-begins, keep-next, keep-stops, keep-ends}
use Rattle.mending.proofs.keep_rows.Goals as goal

pub loop-n-init : goal.loop-n-init
loop-n-init c = keep-begins c.args.cells.now c.args.width _ _ refl

pub loop-n-preserved : goal.loop-n-preserved
loop-n-preserved c =
    keep-next c.loop-n.invariant (omega arith) (omega (arith, c.min-most.ensures)) c.next_row.ensures c.in-Some.is

pub returns-in-None : goal.returns-in-None
returns-in-None c =
    rw (← c.min-most.ensures)
    (keep-stops c.loop-n.invariant (omega arith) (omega (arith, c.min-most.ensures)) c.next_row.ensures c.in-None.is refl refl)

pub returns : goal.returns
returns c = rw (← c.min-most.ensures) (keep-ends c.loop-n.invariant (omega arith) (omega arith) refl)
