-- A clause as the code holds it: its predicate, the predicate that it calls, how many arguments its own has, how many cells its head has,
-- and the head (02, W-210: "straight runs folded into heads"), its open places being the variables 0, 1, 2 from the left. A head has at most
-- 32 cells, as a row has (01): for a longer one nothing is put.
use Rattle.std.specs.Prelude.{ℕ, cond, List, [], ◌∷◌, leb, length}
use Rattle.clauses.specs.Translate.{head_of}
use Rattle.limits.specs.Limits.{most_row_cells}

abbrev pub clause_cells : (predicate called width : ℕ) → List ℕ → List ℕ
clause_cells predicate called width head =
    cond (leb (length head) most_row_cells) (predicate ∷ called ∷ width ∷ length head ∷ head_of head) []
