use Rattle.std.proofs.Common.{take}
use Rattle.octets.specs.Octets.{Put}
use Rattle.instance.specs.Rewrite.{put}
use Rattle.rewrite.proofs.put_with.Given as goal

abbrev pub invariant-loop-c : goal.invariant-loop-c
invariant-loop-c l = Put l.initial.out l.out l.to (put l.v l.term (take l.c-index l.cells)) l.on
