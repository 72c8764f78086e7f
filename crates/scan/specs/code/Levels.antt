-- The counts of complete arguments as the code keeps them, four in a byte (src/levels.rt).
use Rattle.std.specs.Prelude.{ℕ, zero, suc, ◌+◌, ◌-◌, ◌*◌, ◌/◌, ◌%◌, cond, List, [], ◌∷◌, eqb, get_or, set}

-- what one counts in its byte
unfoldable pub weight_of : ℕ → ℕ
weight_of r = cond (eqb r 0) 1 (cond (eqb r 1) 4 (cond (eqb r 2) 16 64))

-- a byte's count by its weight; and the byte with another count there
abbrev pub count_in : ℕ → ℕ → ℕ
count_in w byte = byte / w % 4

abbrev pub with_count : ℕ → ℕ → ℕ → ℕ
with_count w byte done = byte - count_in w byte * w + done * w

abbrev pub level_at : List ℕ → ℕ → ℕ
level_at dones level = count_in (weight_of (level % 4)) (get_or dones (level / 4) 0)

abbrev pub stored : List ℕ → ℕ → ℕ → List ℕ
stored dones level done = set dones (level / 4) (with_count (weight_of (level % 4)) (get_or dones (level / 4) 0) done)

-- the counts of so many levels, the innermost first
unfoldable pub levels_of : List ℕ → ℕ → List ℕ
levels_of dones zero = []
levels_of dones (suc d) = level_at dones d ∷ levels_of dones d
