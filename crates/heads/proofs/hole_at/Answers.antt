use native.Mathlib.Omega.{arith}
use Rattle.heads.proofs.HeadLaws.{hole-none, hole-here, later-on, other-on}
use Rattle.heads.proofs.hole_at.Goals.{then-c+else-left-eq0, else-c}
use Rattle.heads.proofs.hole_at.Goals as goal

pub loop-at-init : goal.loop-at-init
loop-at-init c = (omega arith, omega arith)

pub returns-then-left-eq0 : goal.returns-then-left-eq0
returns-then-left-eq0 c =
    let l = c.loop-at in
    let K = c.args.head.now in
    omega (arith, l.invariant.1, hole-here K l.at l.left (omega arith) c.if-c.true c.if-left-eq0.true)

pub loop-at-preserved : goal.loop-at-preserved
loop-at-preserved c =
    let l = c.loop-at in
    let K = c.args.head.now in
    elim c.if-c.branch [
      | then-c+else-left-eq0 x ↦ (omega arith, later-on K l.at l.left (omega arith) x.if-c.true x.if-left-eq0.false x.left-is l.invariant.1)
      | else-c x ↦ (omega arith, other-on K l.at l.left (omega arith) x.if-c.false x.left-is l.invariant.1)
    ]

pub returns : goal.returns
returns c =
    let l = c.loop-at in
    let K = c.args.head.now in
    omega (arith, l.invariant.1, hole-none K l.at l.left (omega arith))
