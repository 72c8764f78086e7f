use Rattle.std.proofs.Common.{ℕ, List, ◌≤◌, max}
use Rattle.state.specs.Flags.{flags_in}
use Rattle.state.specs.States.{rows_in}
use Rattle.builder.specs.code.Ahead.{AheadIn}
use Rattle.builder.proofs.ChooseLaws.{Looking}
use Rattle.builder.proofs.writer.leftmost.Given as goal

abbrev pub invariant-loop-i : goal.invariant-loop-i
invariant-loop-i l =
    (l.i ≤ max l.from l.rows.opens) × ((ms : List ℕ) → AheadIn l.table l.starts ms l.ahead l.from l.rows.first l.rows.end
    → Looking (flags_in l.rows.opens l.rows.named) (rows_in l.table l.starts ms l.rows.first l.rows.end) l.rows.opens l.from l.i)
