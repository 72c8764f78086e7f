use Rattle.builder.proofs.AgreedLaws.{Agreeing}
use Rattle.builder.proofs.writer.agreed_at.Given as goal

abbrev pub invariant-loop-row : goal.invariant-loop-row
invariant-loop-row l = Agreeing l.table l.starts l.masks l.i l.first l.end l.row l.cell
