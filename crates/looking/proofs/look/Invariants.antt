use lib.ListN.{length}
use Rattle.looking.proofs.LookLaws.{Looked}
use Rattle.looking.proofs.look.Given as goal

abbrev pub invariant-loop-byte : goal.invariant-loop-byte
invariant-loop-byte l = Looked l.level l.before (length l.before) l.byte-index l.s
