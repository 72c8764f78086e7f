use Rattle.std.proofs.Common.{◌∙◌, arith}
use Rattle.shift.proofs.JobsLaws.{bits_none, bits-all, row_low, bits-more}
use Rattle.shift.proofs.jobs.bits.Goals as goal

pub loop-i-init : goal.loop-i-init
loop-i-init c = λ h. bits_none

-- all hits are taken: `min` cuts nothing off
pub loop-i-preserved : goal.loop-i-preserved
loop-i-preserved c =
    let a = c.args in
    λ h.
    let few = h.few in
    let low = row_low a.room.now a.n h c.loop-i.i (omega arith) in
    let w = c.wide.ensures in
    bits-more a.room.now a.n h c.loop-i.i (omega arith) (c.loop-i.invariant h) (c.node.ensures.1 (omega (arith, w, low)) ∙ w)

pub returns : goal.returns
returns c = λ h.
    let a = c.args in
    let few = h.few in
    bits-all a.room.now c.loop-i.i a.n c.loop-i.rows (omega arith) (c.loop-i.invariant h)
