use Rattle.std.proofs.Common.{◌≡◌, ◌+◌, ◌-◌, ◌∙◌, arith}
use Rattle.walking.proofs.GoalLaws.{hop-here, hop-small, step-done, done_none}
use Rattle.run.proofs.nodes.siblings.Goals as goal

pub loop-p-init : goal.loop-p-init
loop-p-init c = rw c.numbers-sib.ensures (done_none c.args.goal.now)

pub hop-requires : goal.hop-requires
hop-requires c =
    rw c.arity_of-a.ensures (hop-here c.requires c.loop-p.invariant (c.loop-p.p - 1) (omega arith)).1

pub overflow_cast-sib : goal.overflow_cast-sib
overflow_cast-sib c =
    let h = hop-small c.requires c.loop-p.invariant (c.loop-p.p - 1) c.hop.result (omega arith) (c.hop.ensures ∙ rw c.arity_of-a.ensures) in
    record { fits = omega arith }

pub loop-p-preserved : goal.loop-p-preserved
loop-p-preserved c =
    step-done c.requires c.loop-p.invariant (c.loop-p.p - 1) c.hop.result (omega arith) (c.hop.ensures ∙ rw c.arity_of-a.ensures)
