-- What the cells of a reply become on the way (02, W-203): a variable replaced by a term, variables renumbered by first appearance.
use Rattle.std.specs.Prelude.{ℕ, suc, cond, ◌&&◌, List, [], ◌∷◌, eqb, ltb, length}
use Rattle.cell.specs.Cell.{is_var}
use Rattle.term.specs.Unify.{inst}
use Rattle.term.specs.Bind.{bind, id_s}

-- the variable v replaced by the term t, everywhere in a list
abbrev pub put : (v : ℕ) (t xs : List ℕ) → List ℕ
put v t xs = inst (bind v t id_s) xs

-- where a variable stands first in a list of those met so far; their number, which is the next one's, where it is new
unfoldable pub place : ℕ → List ℕ → ℕ
place v [] = 0
place v (c ∷ met) = cond (eqb v c) 0 (suc (place v met))

-- the variables met, with one more
unfoldable pub meet : ℕ → List ℕ → List ℕ
meet v [] = v ∷ []
meet v (c ∷ met) = cond (eqb v c) (c ∷ met) (c ∷ meet v met)

-- 02, "variables renumbered by first appearance"
unfoldable pub number_from : List ℕ → List ℕ → List ℕ
number_from met [] = []
number_from met (c ∷ xs) = cond (is_var c) (place c met ∷ number_from (meet c met) xs) (c ∷ number_from met xs)

-- the same with room for so many variables: one that finds none is not met, and has the next number. Where there are no more variables than
-- that it is `number_from` (`number_fits` of proofs/NumberLaws)
abbrev pub number_at : (met : List ℕ) (c : ℕ) → ℕ
number_at met c = cond (is_var c) (place c met) c

abbrev pub meet_in : (room c : ℕ) → List ℕ → List ℕ
meet_in room c met = cond (is_var c && ltb (length met) room) (meet c met) met

unfoldable pub number_in : (room : ℕ) → List ℕ → List ℕ → List ℕ
number_in room met [] = []
number_in room met (c ∷ xs) = number_at met c ∷ number_in room (meet_in room c met) xs
