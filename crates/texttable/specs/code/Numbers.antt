-- The numbers of a text's symbols as the code has them (src/numbers.rt): the variables of the row under way, and what is numbered so far.
-- These definitions describe the code's own state.
use Rattle.std.specs.Prelude.{ℕ, ◌≤◌, ◌<◌, ◌≡◌, Bool, false, List, [], ◌∷◌, length, get_or}
use Rattle.cell.specs.Same.{same}
use Rattle.grammar.specs.Meaning.{Place, position, variable_number, variables_with}
use Rattle.texttable.specs.code.Tree.{word_listed, Tree}
use Rattle.texttable.specs.declared.numbers.Row.{Row}
use Rattle.texttable.specs.declared.numbers.Numbered.{Numbered}

-- `_` is 95: a variable that is fresh each time
abbrev pub is_fresh : List ℕ → Bool
is_fresh w = same w (95 ∷ [])

-- the variables of a row: those with a name are listed, and have the number that they were given; `_` is counted only
pub record RowVars (t words ways given : List ℕ) (row : Row) : Type 0 where
  pub places : List Place
  pub all : length places ≡ row.all
  pub few : row.named ≤ row.all
  pub tree : Tree t words ways row.named
  pub size : length given ≡ length words
  pub found : (j : ℕ) → j < row.named → (position t (word_listed t (get_or words j 0)) places ≡ get_or given j 0) × (get_or given j 0 < row.all)
  pub missing : (w : List ℕ) → ((j : ℕ) → j < row.named → word_listed t (get_or words j 0) ≡ w → ⊥) → is_fresh w ≡ false
      → position t w places ≡ length places

-- one variable more
pub record VariableIs (t : List ℕ) (places : List Place) (w : Place) (words ways given : List ℕ) (r : Numbered) : Type 0 where
  pub vars : RowVars t words ways given r.row
  pub with' : vars.places ≡ variables_with t places w
  pub number : r.number ≡ variable_number t places w
  pub low : r.number < r.row.all
