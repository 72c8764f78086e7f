use mathlib.Core.Path.{refl, sym, ◌∙◌}
use native.Mathlib.Omega.{arith}
use Rattle.linecut.proofs.CutLaws.{bracket-on, bracket-done}
use Rattle.linecut.proofs.goal_end.Goals as goal
use Rattle.linecut.proofs.goal_end.Goals.{then-closes, else-closes}

pub loop-i-init : goal.loop-i-init
loop-i-init c = (omega arith, refl)

pub loop-i-preserved : goal.loop-i-preserved
loop-i-preserved c =
    let l = c.loop-i in
    let on = bracket-on l.remark l.end c.args.goal.now l.i (omega arith) in
    elim c.if-closes.branch [
      | then-closes w ↦
          rw w.end-is
          (omega arith, sym (rw (← c.in_remark-remark.ensures, ← c.closes.ensures, w.if-closes.true) at on) ∙ l.invariant.1)
      | else-closes w ↦
          rw w.end-is
          (omega arith, sym (rw (← c.in_remark-remark.ensures, ← c.closes.ensures, w.if-closes.false) at on) ∙ l.invariant.1)
    ]

pub returns : goal.returns
returns c =
    let l = c.loop-i in
    bracket-done l.remark l.end _ l.i (omega arith) ∙ l.invariant.1
