-- What later meetings of variables cost beyond what the variables weigh (02, W-209). It goes by the rows alone and not by the plan:
-- `cost-from` of proofs/Later.
use Rattle.std.specs.Prelude.{ℕ, ◌+◌, ◌-◌, cond, ◌&&◌, List, [], ◌∷◌, ltb}
use Rattle.cell.specs.Cell.{is_var}
use Rattle.table.specs.Table.{count}
use Rattle.plan.specs.Plans.{Measure}

-- of a cell, where the cells in `met` are met: `weight_at` is the weight and this
abbrev pub later_at : Measure → List ℕ → ℕ → ℕ
later_at m met cell = cond (is_var cell && ltb 0 (count cell met)) (1 - m.weight cell) 0

-- of a row, its cells met one after another
unfoldable pub later_in : Measure → List ℕ → List ℕ → ℕ
later_in m met [] = 0
later_in m met (c ∷ xs) = later_at m met c + later_in m (c ∷ met) xs

-- of some rows
abbrev pub laters_in : Measure → List ℕ → List (List ℕ) → ℕ
laters_in m met [] = 0
laters_in m met (r ∷ rs) = later_in m met r + laters_in m met rs
