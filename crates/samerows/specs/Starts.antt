-- The rows of a table as the code finds them again: by where each starts, the last one first.
use Rattle.std.specs.Prelude.{ℕ, zero, suc, ◌-◌, ◌≤◌, ◌≡◌, cond, List, [], ◌∷◌, eqb, length, get_or, take, drop}
use Rattle.slices.specs.Slices.{between}

-- so many rows, of which the last ends at a place; one of them is left out
unfoldable pub rows_but : (cells starts : List ℕ) (but : ℕ) → (n end : ℕ) → List (List ℕ)
rows_but cells starts but zero end = []
rows_but cells starts but (suc n) end =
    let before = rows_but cells starts but n (get_or starts n 0) in
    cond (eqb n but) before (between (get_or starts n 0) end cells ∷ before)

-- all of them, of cells that end with these rows
abbrev pub rows_lent : (cells starts : List ℕ) (but : ℕ) → List (List ℕ)
rows_lent cells starts but = rows_but cells starts but (length starts) (length cells)

-- so many starts, each not after the next, and the last not after a place
unfoldable pub Ascends : (starts : List ℕ) → (n end : ℕ) → Type 0
Ascends starts zero end = Unit {0}
Ascends starts (suc n) end = (get_or starts n 0 ≤ end) × Ascends starts n (get_or starts n 0)
