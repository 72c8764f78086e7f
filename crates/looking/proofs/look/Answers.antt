use mathlib.Core.Path.{refl}
use native.Mathlib.Omega.{arith}
use Rattle.looking.proofs.LookLaws.{looked-none, looked-next, looked-end}
use Rattle.looking.proofs.look.Goals as goal

pub loop-byte-init : goal.loop-byte-init
loop-byte-init c = looked-none refl

pub loop-byte-preserved : goal.loop-byte-preserved
loop-byte-preserved c = looked-next c.loop-byte.invariant (omega arith) (omega arith) c.step-s.ensures

pub returns : goal.returns
returns c = looked-end _ _ _ _ c.min.ensures c.loop-byte.invariant (omega arith)
