use Rattle.std.specs.Prelude.{ℕ, ◌+◌, List, [], ◌∷◌, length}
use Rattle.plan.specs.Runs.{Run}

-- how many rows some runs have together
abbrev pub row_count : List Run → ℕ
row_count [] = 0
row_count (g ∷ gs) = length g.rows + row_count gs
