use Rattle.std.proofs.Common.{◌+◌}
use Rattle.builder.specs.code.Ahead.{ToClose}
use Rattle.builder.proofs.ClosingLaws.{Closing}
use Rattle.builder.proofs.writer.close_ahead.Given as goal

abbrev pub invariant-loop-row : goal.invariant-loop-row
invariant-loop-row l =
    (q : ToClose l.table l.starts l.initial.masks l.initial.ahead l.i l.first l.end)
    → Closing l.table l.starts l.initial.masks l.initial.ahead l.masks l.ahead (q.from + l.i) l.first l.end l.row
