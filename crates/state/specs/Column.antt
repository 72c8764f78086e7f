-- The runs as the code finds them: in a column, the cells that a state's rows have at the chosen place, in row order. That they are those
-- of 01 is `group-on`, `first_run` and `count_runs` of proofs/ColumnLaws.
use Rattle.std.specs.Prelude.{ℕ, suc, cond, List, [], ◌∷◌}
use Rattle.plan.specs.Runs.{Run, agree, join}

-- how many cells at the front agree, each with the one before it, c being before the first
unfoldable pub follow : ℕ → List ℕ → ℕ
follow c [] = 0
follow c (d ∷ cs) = cond (agree c d) (suc (follow d cs)) 0

-- 01, "the longest runs of agreeing neighbours": how long the first is
abbrev pub run_length : List ℕ → ℕ
run_length [] = 0
run_length (c ∷ cs) = suc (follow c cs)

-- how many cells do not agree with the one before them
unfoldable pub breaks : ℕ → List ℕ → ℕ
breaks c [] = 0
breaks c (d ∷ cs) = cond (agree c d) (breaks d cs) (suc (breaks d cs))

-- how many runs there are
abbrev pub run_count : List ℕ → ℕ
run_count [] = 0
run_count (c ∷ cs) = suc (breaks c cs)

-- the runs of rows by a column of their cells: what `group` makes of rows, each with its cell
abbrev pub runs_on : List ℕ → List (List ℕ) → List Run
runs_on [] rows = []
runs_on (c ∷ cs) [] = []
runs_on (c ∷ cs) (r ∷ rows) = join c r (runs_on cs rows)
