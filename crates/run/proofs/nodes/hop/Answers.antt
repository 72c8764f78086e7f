use Rattle.std.proofs.Common.{◌≡◌, ◌+◌, ◌-◌, refl, sym, ◌∙◌, arith}
use Rattle.walking.proofs.ListLaws.{steps_all}
use Rattle.walking.proofs.GoalLaws.{hop-none, hop-more}
use Rattle.run.proofs.nodes.hop.Goals as goal

pub loop-init : goal.loop-init
loop-init c = let z : c.args.a - 0 ≡ c.args.a = omega arith in rw z (c.requires, refl)

pub bounds-sib-q : goal.bounds-sib-q
bounds-sib-q c =
    let l = c.loop in
    let h = steps_all c.args.sib.now (c.args.a - l.counter) l.q (omega arith) l.invariant.0 in
    omega arith

pub loop-preserved : goal.loop-preserved
loop-preserved c =
    let l = c.loop in
    let s = c.args.sib.now in
    let left = c.args.a - l.counter in
    let h = steps_all s left l.q (omega arith) l.invariant.0 in
    let d : c.args.a - (l.counter + 1) ≡ left - 1 = omega arith in
    rw (c.wide-q.ensures, d) (h.1, sym (hop-more s left l.q (omega arith)) ∙ l.invariant.1)

pub returns : goal.returns
returns c =
    let l = c.loop in
    sym (hop-none c.args.sib.now (c.args.a - l.counter) l.q (omega arith)) ∙ l.invariant.1
