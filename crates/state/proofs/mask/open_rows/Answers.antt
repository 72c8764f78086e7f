use Rattle.std.proofs.Common.{◌-◌, min, ap, ◌∙◌, arith}
use Rattle.state.specs.Mask.{full}
use Rattle.state.proofs.MaskLaws.{Opening, opening-none, opening-one, opening-all}
use Rattle.state.proofs.mask.open_rows.Goals as goal

pub loop-row-init : goal.loop-row-init
loop-row-init c = let a = c.args in opening-none a.starts.now (min a.rows 64) a.length _ c.min-row.ensures

pub loop-row-preserved : goal.loop-row-preserved
loop-row-preserved c =
    let a = c.args in
    let l = c.loop-row in
    opening-one a.starts.now (min a.rows 64) a.length l.masks l.row l.end (l.row - 1) c.row_mask.result (omega arith) (omega arith)
    (c.row_mask.ensures ∙ ap full c.saturating_sub.ensures) l.invariant

pub returns : goal.returns
returns c = opening-all (omega arith) c.loop-row.invariant
