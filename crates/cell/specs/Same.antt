-- Two lists of numbers are the same: the bytes of two words, the cells of two rows.
use Rattle.std.specs.Prelude.{ℕ, Bool, true, false, ◌&&◌, ◌||◌, List, [], ◌∷◌, eqb}

unfoldable pub same : List ℕ → List ℕ → Bool
same [] [] = true
same [] (b ∷ ys) = false
same (a ∷ xs) [] = false
same (a ∷ xs) (b ∷ ys) = eqb a b && same xs ys

-- a list is one of these
unfoldable pub among : List ℕ → List (List ℕ) → Bool
among xs [] = false
among xs (ys ∷ others) = same xs ys || among xs others
