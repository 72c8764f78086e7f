-- A list of goals in two rooms: their cells, and two words for each goal, where it begins and how many cells it has.
use Rattle.std.specs.Prelude.{ℕ, ◌+◌, ◌≤◌, ◌≡◌, Bool, cond, ◌&&◌, List, [], ◌∷◌, leb, length, take, Result, Ok, Err}
use Rattle.std.proofs.lemmas.List.Edits.{sets}
use Rattle.std.proofs.Math.Seq.{slice}
use Rattle.goallist.specs.declared.Held.{Held}
use Rattle.goallist.specs.declared.Full.{Full}
use Rattle.goallist.specs.declared.Full.TheVariants as full

-- whether there is room for the two words of a goal more, and for its cells
abbrev pub words_fit : (held : Held) (list : List ℕ) → Bool
words_fit held list = leb (held.words + 2) (length list)

abbrev pub cells_fit : (goal : List ℕ) (held : Held) (cells : List ℕ) → Bool
cells_fit goal held cells = leb (held.cells + length goal) (length cells)

-- so many are in use with the goal
abbrev pub with_goal : (goal : List ℕ) → Held → Held
with_goal goal held = record { cells = held.cells + length goal; words = held.words + 2 }

-- a goal more: its cells and its words stand behind those that are in use; or there is no room for one of them, and nothing is written
pub record Adding (goal : List ℕ) (held : Held) (cells list cells' list' : List ℕ) (r : Result Held Full) : Type 0 where
  pub told : r ≡ cond (words_fit held list) (cond (cells_fit goal held cells) (Ok (with_goal goal held)) (Err full.Cells))
      (Err full.Goals)
  pub puts-cells : cells' ≡ cond (words_fit held list && cells_fit goal held cells) (sets cells held.cells goal) cells
  pub puts-words : list' ≡ cond (words_fit held list && cells_fit goal held cells) (sets list held.words (held.cells ∷ length goal ∷ [])) list

-- the goals that a list of words names; a last word that stands alone names none
unfoldable pub goals_at : (cells list : List ℕ) → List (List ℕ)
goals_at cells [] = []
goals_at cells (start ∷ []) = []
goals_at cells (start ∷ count ∷ list) = slice start (start + count) cells ∷ goals_at cells list

-- words two by two, and each goal ends by a place
pub data Pairs (end : ℕ) : List ℕ → Type 0 where
  none : Pairs end []
  pair : {start count : ℕ} {list : List ℕ} → start + count ≤ end → Pairs end list → Pairs end (start ∷ count ∷ list)

-- what is in use is a list of goals
pub record Gathered (cells list : List ℕ) (held : Held) : Type 0 where
  pub in_cells : held.cells ≤ length cells
  pub in_list : held.words ≤ length list
  pub pairs : Pairs held.cells (take held.words list)
