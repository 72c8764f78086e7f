-- The least cost of a state as a function, and the first place at which it is reached. That it is the least cost is `best-least` of
-- proofs/Best.
use Rattle.std.specs.Prelude.{ℕ, zero, suc, ◌+◌, Bool, cond, not, ◌&&◌, ◌||◌, List, [], ◌∷◌, ltb, length}
use Rattle.cell.specs.Cell.{arity}
use Rattle.plan.specs.Runs.{Run, runs}
use Rattle.plan.specs.Plans.{Measure, choice}
use Rattle.plan.specs.Named.{spread, may}

-- place j is better than the best so far: it may be chosen, and that one may not, or costs more
abbrev pub better : (ℕ → Bool) → (ℕ → ℕ) → (i j : ℕ) → Bool
better ok F i j = ok j && (not (ok i) || ltb (F j) (F i))

-- the first of the places 0 .. k that may be chosen at which F is least, and F there
unfoldable pub argmin : (ℕ → Bool) → ℕ → (ℕ → ℕ) → ℕ
argmin ok zero F = 0
argmin ok (suc k) F = let i : ℕ = argmin ok k F in cond (better ok F i (suc k)) (suc k) i

abbrev pub minimum : (ℕ → Bool) → ℕ → (ℕ → ℕ) → ℕ
minimum ok k F = F (argmin ok k F)

-- the same over k places, 0 where there are none
abbrev pub first_over : (ℕ → Bool) → ℕ → (ℕ → ℕ) → ℕ
first_over ok zero F = 0
first_over ok (suc k) F = argmin ok k F

abbrev pub least_over : (ℕ → Bool) → ℕ → (ℕ → ℕ) → ℕ
least_over ok zero F = 0
least_over ok (suc k) F = minimum ok k F

-- what a state costs that looks at place i first, where the branches there cost F i
abbrev pub through : Measure → List (List ℕ) → (ℕ → ℕ) → ℕ → ℕ
through m rows F i = choice m (length (runs i rows)) + F i

-- what the branches of some runs cost, by what stands below each
unfoldable pub total : Measure → (ℕ → List (List ℕ) → ℕ) → List Run → ℕ
total m f [] = 0
total m f (g ∷ gs) = m.weight g.cell + (f g.cell g.rows + total m f gs)

-- the least cost of a state. The first number bounds the depth and never decides: a row of n cells is looked at n times at most
unfoldable pub best : Measure → ℕ → List Bool → ℕ → List (List ℕ) → ℕ
best m zero named k rows = 0
best m (suc n) named zero rows = 0
best m (suc n) named (suc k) rows =
    minimum (may named) k (through m rows (λ (i : ℕ). total m (λ c g. best m n (spread i (arity c) named) (arity c + k) g) (runs i rows)))
