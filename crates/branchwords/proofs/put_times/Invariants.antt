use Rattle.std.proofs.Common.{◌-◌}
use Rattle.octets.proofs.PutLaws.{Putting}
use Rattle.branchwords.specs.Branches.{times_text}
use Rattle.branchwords.proofs.put_times.Given as goal

-- what is put, and so many times more, are the whole
abbrev pub invariant-loop-time : goal.invariant-loop-time
invariant-loop-time l = Putting l.initial.out l.out l.to l.on (times_text (l.times - l._time) l.word) (times_text l.times l.word)
