use lib.ListN.{drop}
use Rattle.octets.proofs.PutLaws.{Putting}
use Rattle.mendwords.specs.Mended.{others_text}
use Rattle.mendwords.proofs.put_others.Given as goal

abbrev pub invariant-loop-n : goal.invariant-loop-n
invariant-loop-n l = Putting l.initial.out l.out l.to l.on (others_text (drop l.n-index l.numbers)) (others_text l.numbers)
