use lib.ListN.{length}
use Rattle.marks.proofs.MarkLaws.{Marked}
use Rattle.marks.proofs.mark_of.Given as goal

abbrev pub invariant-loop-byte : goal.invariant-loop-byte
invariant-loop-byte l = Marked l.before (length l.before) l.byte-index l.line l.column
