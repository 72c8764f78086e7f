-- A program as the code holds it: for each clause four numbers and its head's cells. The numbers are its predicate, the predicate that it
-- calls (0: none, for the first state's is never called), how many arguments its own has, and how many cells its head has.
use Rattle.std.specs.Prelude.{ℕ, List, [], ◌∷◌, ◌++◌, length}
use Rattle.clauses.specs.Clauses.{Body, nothing, calls, Clause}

abbrev pub called_in : Body → ℕ
called_in nothing = 0
called_in (calls j) = j

abbrev pub flat_one : Clause → List ℕ
flat_one c = c.predicate ∷ called_in c.body ∷ c.width ∷ length c.head ∷ c.head

unfoldable pub flat : List Clause → List ℕ
flat [] = []
flat (c ∷ cs) = flat_one c ++ flat cs
