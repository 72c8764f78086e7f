use Rattle.std.proofs.Common.{◌≡◌, ℕ, ◌+◌, ◌-◌, arith, ap, ◌∙◌}
use Rattle.paircosts.specs.code.Notes.{past_of}
use Rattle.paircosts.proofs.MarkLaws.{past-cell, past-in, mark-is, marked_step}
use Rattle.paircosts.proofs.arrays.mark_cells.Goals as goal

pub mark_of-requires : goal.mark_of-requires
mark_of-requires c =
    let within = past-in c.args.cells.now c.arity_of-terms.result (c.loop-j.j - 1 + 1) (omega arith) in
    (omega (arith, c.past-end.ensures, within, c.requires.0), c.weight_of-weight.ensures.1)

pub loop-j-preserved : goal.loop-j-preserved
loop-j-preserved c =
    let s = c.args.cells.now in
    let ended : c.past-end.result ≡ past_of s 1 (c.loop-j.j - 1) =
    c.past-end.ensures ∙ ap (λ (k : ℕ). past_of s k (c.loop-j.j - 1 + 1)) c.arity_of-terms.ensures
    ∙ past-cell s (c.loop-j.j - 1) (omega arith) in
    let w = c.weight_of-weight.ensures in
    rw c.mark_of.ensures
    (marked_step _ _ _ c.loop-j.j _ c.loop-j-test.true (omega arith) (mark-is _ _ _ _ _ ended w.0 w.1) c.loop-j.invariant)
