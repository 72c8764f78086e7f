use Prim.Native.Nat.{◌<◌}
use mathlib.Core.Path.{◌≡◌}
use lib.ListN.{drop}
use Rattle.texttable.specs.code.Tree.{mix_from, mix_of}
use Rattle.texttable.proofs.tree.mixed.Given as goal

abbrev pub invariant-loop-byte : goal.invariant-loop-byte
invariant-loop-byte l = (l.mix < 65536) × (mix_from l.mix (drop l.byte-index l.byte-items) ≡ mix_of l.word l.turn)
