-- The test of each cell is the test of the list.
use Prim.Native.Nat.{ℕ}
use mathlib.Core.Path.{◌≡◌, refl, ap}
use mathlib.Core.Bool.{◌&&◌}
use mathlib.Core.List.{List, [], ◌∷◌}
use lib.Dec.{eqb}
use Rattle.std.specs.Prelude.{◌==◌, Bool}
use Rattle.std.specs.List.{list_all}
use Rattle.filing.specs.Files.{zeros}

pub zeros-all : (cells : List ℕ) → list_all (λ c. c == 0) cells ≡ zeros cells
unfolding zeros
zeros-all [] = refl
zeros-all (c ∷ cells) = ap (λ (b : Bool). eqb c 0 && b) (zeros-all cells)
