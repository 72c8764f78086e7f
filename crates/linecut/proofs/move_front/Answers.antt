use mathlib.Core.Logic.{by_cases}
use native.Mathlib.Omega.{arith}
use native.Mathlib.Decide.{dec_le}
use Rattle.linecut.proofs.CutLaws.{moved_none, moved_same, moved-next, moved_all, moved-past}
use Rattle.linecut.proofs.move_front.Goals as goal

pub loop-i-init : goal.loop-i-init
loop-i-init c = moved_none _ _ _

pub loop-i-preserved : goal.loop-i-preserved
loop-i-preserved c =
    let l = c.loop-i in
    let same = moved_same _ _ _ _ _ _ l.invariant in
    moved-next _ _ _ _ l.i l.n l.invariant (omega arith) (omega arith) c.put_byte-n.ensures

pub returns : goal.returns
returns c =
    let l = c.loop-i in
    let same = moved_same _ _ _ _ _ _ l.invariant in
    by_cases (dec_le c.args.to l.i) (λ h. moved-past _ _ _ _ _ _ l.invariant h) (λ h. moved_all _ _ _ _ _ _ l.invariant (omega arith))
