use Rattle.std.proofs.Common.{ℕ, List, ◌+◌, ap, sym, ◌∙◌, drop, arith}
use Rattle.tally.specs.code.Hits.{added_to}
use Rattle.tally.proofs.AddLaws.{added-on, added-done}
use Rattle.tally.proofs.add_hits.Goals as goal

pub loop-row-preserved : goal.loop-row-preserved
loop-row-preserved c =
    let l = c.loop-row in
    let hits = c.args.hits.now in
    ap (λ (fits : List ℕ). added_to fits (drop (l.row-index + 1) hits)) c.one_more.ensures
    ∙ sym (added-on l.fits hits l.row-index (omega arith)) ∙ l.invariant

pub returns : goal.returns
returns c =
    let l = c.loop-row in
    sym (added-done l.fits c.args.hits.now l.row-index (omega arith)) ∙ l.invariant
