-- Two results that a promise allows are equal, for `add`.
use mathlib.Core.Path.{◌≡◌}
use mathlib.Core.List.{List}
use Prim.Native.Nat.{ℕ}
use Rattle.cell.proofs.Fixed.{given-fixed}
use Rattle.goallist.specs.Gathering.{Adding}
use Rattle.goallist.specs.declared.Held.{Held}
use Rattle.std.specs.Prelude.{Result}
use Rattle.goallist.specs.declared.Full.{Full}

pub adding-fixed : {goal cells list a b a' b' : List ℕ} {held : Held} {r s : Result Held Full} → Adding goal held cells list a b r
    → Adding goal held cells list a' b' s → (r ≡ s) × (a ≡ a') × (b ≡ b')
adding-fixed p q =
    (given-fixed p.told q.told, given-fixed p.puts-cells q.puts-cells, given-fixed p.puts-words q.puts-words)
