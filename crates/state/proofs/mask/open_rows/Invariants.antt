-- The rows from `row` on are open, and the last one before them ends at `end`.
use Rattle.std.proofs.Common.{min}
use Rattle.state.proofs.MaskLaws.{Opening}
use Rattle.state.proofs.mask.open_rows.Given as goal

abbrev pub invariant-loop-row : goal.invariant-loop-row
invariant-loop-row l = Opening l.starts (min l.rows 64) l.length l.masks l.row l.end
