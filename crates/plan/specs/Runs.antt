-- The longest runs of neighbouring rows that agree at a place (01, "Plans"). A row in a state is the flat list of its cells not yet looked
-- at: the terms that stand open in it are its open places, left to right.
use Rattle.std.specs.Prelude.{ℕ, Bool, true, false, not, ◌&&◌, List, [], ◌∷◌, eqb}
use Rattle.cell.specs.Cell.{is_var}
use Rattle.term.specs.Terms.{root, close}

-- 01, "A branch carries the shared symbol, or the single row's variable": its cell, and its rows with that place closed
pub record Run : Type 0 where
  pub cell : ℕ
  pub rows : List (List ℕ)

abbrev pub run : ℕ → List (List ℕ) → Run
run c rs = record { cell = c; rows = rs }

-- 01, "Two neighbouring rows agree at a place when both hold the same name or the same number there. Variables of two rows never agree."
unfoldable pub agree : ℕ → ℕ → Bool
agree c d = eqb c d && not (is_var c)

-- a row put before the runs of the rows after it: into the first of them where it agrees, otherwise as a run of its own
abbrev pub join_if : Bool → ℕ → List ℕ → Run → List Run → List Run
join_if true c r g gs = run g.cell (r ∷ g.rows) ∷ gs
join_if false c r g gs = run c (r ∷ []) ∷ (g ∷ gs)

abbrev pub join : ℕ → List ℕ → List Run → List Run
join c r [] = run c (r ∷ []) ∷ []
join c r (g ∷ gs) = join_if (agree c g.cell) c r g gs

-- the runs of rows by the cell that each has, with what is left of each
abbrev pub group : (List ℕ → ℕ) → (List ℕ → List ℕ) → List (List ℕ) → List Run
group cell left [] = []
group cell left (r ∷ rs) = join (cell r) (left r) (group cell left rs)

-- 01, "The state's branches are the longest runs of agreeing neighbours, in row order": the runs at place i
abbrev pub runs : ℕ → List (List ℕ) → List Run
runs i rows = group (root i) (close i) rows
