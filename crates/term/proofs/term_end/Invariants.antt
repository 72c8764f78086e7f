-- The terms still owed end where the whole does. A cell owes at most four, so their number fits.
use Rattle.std.proofs.Common.{◌≡◌, ◌+◌, ◌*◌, ◌<◌, ◌≤◌, drop}
use Rattle.term.specs.code.Owed.{ends}
use Rattle.term.proofs.term_end.Given as goal

abbrev pub invariant-loop-at : goal.invariant-loop-at
invariant-loop-at l =
    (0 < l.owed) × (l.owed ≤ 4 * l.at + 1) × (ends (drop l.at l.cells) l.owed l.at ≡ ends (drop l.from l.cells) 1 l.from)
