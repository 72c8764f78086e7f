use Rattle.std.proofs.Common.{take}
use Rattle.term.specs.Unify.{renamed}
use Rattle.octets.specs.Octets.{Put}
use Rattle.rewrite.proofs.put_apart.Given as goal

abbrev pub invariant-loop-c : goal.invariant-loop-c
invariant-loop-c l = Put l.initial.out l.out l.to (renamed (take l.c-index l.goal)) l.on
