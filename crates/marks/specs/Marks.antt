-- Lines and columns of a text.
use Rattle.std.specs.Prelude.{ℕ, ◌+◌, cond, List, [], ◌∷◌, eqb}

-- how many line feeds there are
unfoldable pub feeds : List ℕ → ℕ
feeds [] = 0
feeds (b ∷ bytes) = cond (eqb b 10) 1 0 + feeds bytes

-- the column after some bytes, of which the first stands in a given column: a line feed begins anew at 1
unfoldable pub column_after : ℕ → List ℕ → ℕ
column_after k [] = k
column_after k (b ∷ bytes) = column_after (cond (eqb b 10) 1 (k + 1)) bytes
