use Rattle.std.proofs.Common.{◌≡◌, ◌≤◌, [], length, take, drop}
use Rattle.octets.specs.Octets.{Put}
use Rattle.instance.specs.Rewrite.{number_in}
use Rattle.rewrite.proofs.put_numbered.Given as goal

abbrev pub invariant-loop-c : goal.invariant-loop-c
invariant-loop-c l =
    (l.k ≤ 64) × (length l.met ≡ 64) × (number_in 64 (take l.k l.met) (drop l.c-index l.cells) ≡ drop l.c-index (number_in 64 [] l.cells))
    × Put l.initial.out l.out l.to (take l.c-index (number_in 64 [] l.cells)) l.on
