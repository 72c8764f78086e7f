use Prim.Native.Nat.{◌-◌}
use mathlib.Core.Path.{◌≡◌}
use lib.ListN.{length}
use Rattle.salvaging.specs.Salvage.{blocks_in}
use Rattle.mending.proofs.ListLaws.{Listing}
use Rattle.mending.proofs.list_bad.Given as goal

abbrev pub invariant-loop-i : goal.invariant-loop-i
invariant-loop-i l = (l.total ≡ blocks_in l.file) × (length l.none ≡ 0) × Listing l.file l.from l.initial.room l.room l.on l.n l.i

abbrev pub decreases-loop-i : goal.decreases-loop-i
decreases-loop-i l = l.total - l.i
