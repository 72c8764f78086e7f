-- The terms owed inside each open bracket, as the code keeps them: the outermost first. These definitions describe the code's own state.
use Rattle.std.specs.Prelude.{ℕ, zero, suc, ◌+◌, ◌≤◌, ◌≡◌, List, [], ◌∷◌, get_or}
use Rattle.octets.specs.Octets.{Put}
use Rattle.termtext.specs.Saying.{closing, owing, mark_after, owed_after}
use Rattle.answertext.specs.declared.Spot.{Spot}

-- so many of them, the innermost first
abbrev pub levels : List ℕ → ℕ → List ℕ
levels owed zero = []
levels owed (suc d) = get_or owed d 0 ∷ levels owed d

-- a text is put, and these are owed then, no more than before and some
pub record Goes (old new : List ℕ) (to : ℕ) (text owed : List ℕ) (left : List ℕ) (deep : ℕ) (r : Spot) : Type 0 where
  pub puts : Put old new to text r.to
  pub still : levels owed r.depth ≡ left
  pub few : r.depth ≤ deep

-- after a complete term
abbrev pub Closes : (old new : List ℕ) (to : ℕ) (owed owed' : List ℕ) (depth : ℕ) → Spot → Type 0
Closes old new to owed owed' depth = Goes old new to (closing (levels owed depth)) owed' (owing (levels owed depth)) depth

-- after a symbol
abbrev pub Marks : (old new : List ℕ) (to : ℕ) (owed owed' : List ℕ) (depth args : ℕ) → Spot → Type 0
Marks old new to owed owed' depth args =
    Goes old new to (mark_after args (levels owed depth)) owed' (owed_after args (levels owed depth)) (depth + 1)
