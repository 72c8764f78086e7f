-- What a reader finds (01, "A reader over the goal holds its cells with the place it has reached"): of the cells and the place, which may
-- lie past their end.
use Rattle.std.specs.Prelude.{ℕ, ◌+◌, ◌-◌, cond, List, ltb, length, get_or, Option, Some, None}

-- 01, "its cells with the place": the cell at that place, or that there is none
abbrev pub step_at : List ℕ → ℕ → Option ℕ
step_at cells at = cond (ltb at (length cells)) (Some (get_or cells at 0)) None

-- 01, "the place it has reached": one on, once the cell there is taken; where there is none, the same
abbrev pub place_after : List ℕ → ℕ → ℕ
place_after cells at = cond (ltb at (length cells)) (at + 1) at

-- 01, "the place it has reached": how many cells there are from it on, and 0 past the end, where the difference is 0
abbrev pub left_from : List ℕ → ℕ → ℕ
left_from cells at = length cells - at
