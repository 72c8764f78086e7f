-- Marks of rows: equal rows have equal marks, and most others have not.
use Rattle.std.specs.Prelude.{ℕ, zero, suc, ◌+◌, ◌*◌, ◌%◌, ◌≡◌, Bool, false, ◌||◌, List, [], ◌∷◌, eqb, get_or}
use Rattle.slices.specs.Slices.{between}

-- a mark with one cell more. 65,599 is odd and over 65,536, so that cells which differ in a name's or a number's 16 bits rarely meet
unfoldable pub mix : ℕ → ℕ → ℕ
mix mark c = (mark * 65599 + c) % 4294967296

unfoldable pub mark_from : ℕ → List ℕ → ℕ
mark_from mark [] = mark
mark_from mark (c ∷ row) = mark_from (mix mark c) row

abbrev pub mark_of : List ℕ → ℕ
mark_of row = mark_from 0 row

-- a number is one of these
unfoldable pub has : ℕ → List ℕ → Bool
has mark [] = false
has mark (m ∷ marks) = eqb m mark || has mark marks

-- so many rows, of which the last ends at a place, have these marks
unfoldable pub Marked : (cells starts marks : List ℕ) → (n end : ℕ) → Type 0
Marked cells starts marks zero end = Unit {0}
Marked cells starts marks (suc n) end =
    (get_or marks n 0 ≡ mark_of (between (get_or starts n 0) end cells)) × Marked cells starts marks n (get_or starts n 0)
