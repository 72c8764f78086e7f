-- What is gathered and what is left are the whole list's.
use Rattle.std.proofs.Common.{◌≡◌, ◌<◌, ◌^◌, drop}
use Rattle.state.specs.Flags.{mask_from, past_from}
use Rattle.state.proofs.flags.named_of.Given as goal

abbrev pub invariant-loop-column : goal.invariant-loop-column
invariant-loop-column l =
    (mask_from l.mask (drop l.column-index l.columns) ≡ mask_from 0 l.columns)
    × (past_from l.past (drop l.column-index l.columns) ≡ past_from 0 l.columns) × (l.mask < 2 ^ 8)
