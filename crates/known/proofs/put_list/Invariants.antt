use Rattle.std.proofs.Common.{drop}
use Rattle.octets.proofs.PutLaws.{Putting}
use Rattle.known.specs.Known.{list_text}
use Rattle.known.proofs.put_list.Given as goal

abbrev pub invariant-loop-before : goal.invariant-loop-before
invariant-loop-before l = Putting l.initial.out l.out l.to l.on (list_text l.before (drop l.before l.columns)) (list_text 0 l.columns)
