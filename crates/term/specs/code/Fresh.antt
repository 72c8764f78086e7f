-- Variables that are new: distinct from each other, and from what stands already.
use Rattle.std.specs.Prelude.{ℕ, suc, ◌≡◌, true}
use mathlib.Core.List.{List, [], ◌∷◌, Memᴰ}
use Rattle.cell.specs.Cell.{is_var}

-- distinct variables, so many of them; and variables that do not occur in a list
pub data Fresh : ℕ → List ℕ → Type 0 where
  nil : Fresh 0 []
  cons : {w k : ℕ} {ws : List ℕ} → is_var w ≡ true → ¬ Memᴰ w ws → Fresh k ws → Fresh (suc k) (w ∷ ws)

abbrev pub AbsentFrom : List ℕ → List ℕ → Type 0
AbsentFrom ws xs = (w : ℕ) → Memᴰ w ws → ¬ Memᴰ w xs
