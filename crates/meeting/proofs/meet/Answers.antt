-- `meet` meets its contract: the loop over the steps.
use mathlib.Core.Path.{refl, sym, ◌∙◌}
use native.Mathlib.Omega.{arith}
use Rattle.instance.proofs.MeetSteps.{met}
use Rattle.meeting.specs.code.Turns.{finished-over}
use Rattle.meeting.proofs.TurnLaws.{sound-by, step_fits, step-over, finished-at}
use Rattle.meeting.proofs.meet.Goals as goal

pub loop-k-init : goal.loop-k-init
loop-k-init c = (refl, refl, c.requires.sound, omega arith, λ row goal v. v)

pub step-requires : goal.step-requires
step-requires c =
    let l = c.loop-k.invariant in
    let p = c.requires.lists in
    record {
      lists = record { most = omega (arith, l.0, p.most); beside = omega (arith, l.0, l.1, p.beside) };
      sound = sound-by (sym l.0) l.2;
      more = c.loop-k-test.true;
    }

pub loop-k-smaller : goal.loop-k-smaller
loop-k-smaller c = (step_fits c.in_ok-k.was c.step.ensures).less

pub loop-k-preserved : goal.loop-k-preserved
loop-k-preserved c =
    let l = c.loop-k.invariant in
    let e = c.step in
    let w = step_fits c.in_ok-k.was e.ensures in
    (e.auto.cells ∙ l.0, e.auto.other ∙ l.1, sound-by l.0 w.sound, omega (arith, w.turn, l.3), λ row goal v. w.meeting row goal (l.4 row goal v))

pub returns-in_err-k : goal.returns-in_err-k
returns-in_err-k c =
    let o = step-over c.in_err-k.was c.step.ensures in
    rw c.from_residual.ensures (finished-over (λ y row goal v. o (c.loop-k.invariant.0 ∙ y) row goal (c.loop-k.invariant.4 row goal v)))

pub returns : goal.returns
returns c =
    let l = c.loop-k in
    finished-at l.invariant.2 (λ row goal v. met (l.invariant.4 row goal v) (omega (arith, c.loop-k-test.false)) l.invariant.3)
