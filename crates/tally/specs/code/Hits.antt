-- Hits added one after another.
use Rattle.std.specs.Prelude.{ℕ, List, [], ◌∷◌, get_or, set}
use Rattle.sums.specs.Sums.{up_by}

-- one more for a row that is there
abbrev pub one_more : List ℕ → (row : ℕ) → List ℕ
one_more fits row = set fits row (up_by (get_or fits row 0) 1)

unfoldable pub added_to : List ℕ → (hits : List ℕ) → List ℕ
added_to fits [] = fits
added_to fits (row ∷ hits) = added_to (one_more fits row) hits
