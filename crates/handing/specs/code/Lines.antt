-- A program as the code is handed it: numbers and cells, clause by clause (unfolding/specs/Flat), and what is known of its clauses.
use Rattle.std.specs.Prelude.{ℕ, suc, ◌/◌, ◌≤◌, ◌<◌, ◌≡◌, cond, List, [], ◌∷◌, map, eqb, length, drop, replicate}
use Rattle.table.specs.All.{All}
use Rattle.table.specs.Table.{up_from}
use Rattle.grammar.specs.Numbering.{Words}
use Rattle.clauses.specs.Clauses.{calls, Clause, handed}
use Rattle.unfolding.specs.Flat.{flat_one, flat}
use Rattle.limits.specs.Limits.{most_row_cells}

-- words of as many bytes as the list says: all that has to be known of them to measure a text
abbrev pub blanks : List ℕ → Words
blanks names = map (λ (n : ℕ). replicate (n / 65536) 32) names

-- how many variables are met once some cells are read: each new one is the next number
unfoldable pub met_in : List ℕ → ℕ → ℕ
met_in [] v = v
met_in (c ∷ cells) v = met_in cells (cond (eqb c v) (suc v) v)

-- what the code can put: at most 32 cells, whose variables are 0, 1, 2 and on, and no call of the first predicate
pub record Plainly (c : Clause) : Type 0 where
  pub short : length c.head ≤ most_row_cells
  pub order : handed c.head ≡ up_from 0 (met_in c.head 0)
  pub called : (j : ℕ) → c.body ≡ calls j → 0 < j

-- numbers that are one such clause
pub record One (numbers : List ℕ) : Type 0 where
  pub it : Clause
  pub is : numbers ≡ flat_one it
  pub plain : Plainly it

-- numbers that are a program of such clauses
pub record ProgramWritten (numbers : List ℕ) : Type 0 where
  pub clauses : List Clause
  pub is : numbers ≡ flat clauses
  pub plain : All Plainly clauses
  pub short : length numbers ≤ 4608

-- the clauses from a place on
pub record Left (numbers : List ℕ) (at : ℕ) (clauses : List Clause) : Type 0 where
  pub is : drop at numbers ≡ flat clauses
  pub plain : All Plainly clauses

-- a place where a clause begins
pub record Begins (numbers : List ℕ) (at : ℕ) : Type 0 where
  pub clauses : List Clause
  pub left : Left numbers at clauses
  pub inside : at < length numbers
