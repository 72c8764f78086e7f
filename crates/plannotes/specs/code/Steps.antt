-- The code's own steps (src/branch.rt, src/tree.rt).
use Rattle.std.specs.Prelude.{ℕ, ◌+◌, ◌*◌, ◌^◌, ◌≤◌, ◌<◌, ◌≡◌, true, cond, List, [], ◌∷◌, ◌++◌, map, length, get_or, set}
use Rattle.std.proofs.Math.Seq.{slice}
use Rattle.cell.specs.Cell.{arity, is_var}
use Rattle.table.specs.All.{All}
use Rattle.plan.specs.Notes.{below, repeats, cell_in}
use Rattle.plannotes.specs.code.Places.{Open, Spot}
use Rattle.limits.specs.Limits.{most_branches, most_row_cells, most_rows}

-- The number of a branch that is met, and of one that has ended.
abbrev pub part_of : (cell row next slot : ℕ) → ℕ
part_of c r n l = c + r * 2 ^ 44 + n * 2 ^ 51 + l * 2 ^ 57

abbrev pub end_of : (skip : ℕ) → ℕ
end_of s = s * 2 ^ 32

abbrev pub ended : (skip : ℕ) → ℕ → ℕ
ended s w = w + end_of s

-- the numbers of branches of which each is below the one before it, and s branches below the last; each with the mark of a row that is run by
-- itself from it on: the cells below it are those of the branches after it, then these
unfoldable pub finished : (s : ℕ) → List ℕ → (cells : List ℕ) → List ℕ
finished s [] cells = []
finished s (w ∷ ws) cells = (ended (length ws + s) w + cond (repeats (cell_in w) (map cell_in ws ++ cells)) 1 0 * 2 ^ 63) ∷ finished s ws cells

-- variables are below 32
abbrev pub Low : ℕ → Type 0
Low c = is_var c ≡ true → c < most_row_cells

-- numbers of branches that are met: with what is added to them they are below 2 ^ 63
abbrev pub Part : ℕ → Type 0
Part w = w + 2 ^ 44 < 2 ^ 63 + 2 ^ 32

abbrev pub Parts : List ℕ → Type 0
Parts ws = All Part ws

-- some branches end
pub record Ending (notes : List ℕ) (from to past : ℕ) : Type 0 where
  pub up : from ≤ to
  pub on : to ≤ past
  pub few : past ≤ most_branches
  pub parts : Parts (slice from to notes)
  pub low : All (λ (w : ℕ). Low (cell_in w)) (slice from to notes)
  pub size : length notes ≡ most_branches

-- a branch is met at a cell of the plan
pub record BranchMet (plan links notes : List ℕ) (i place made free row : ℕ) : Type 0 where
  pub here : place < length plan
  pub spot : Spot links i (arity (get_or plan place 0)) free
  pub few : made < most_branches
  pub first : row < most_rows
  pub size : length notes ≡ most_branches

-- what it leaves
pub record Begun {plan links notes : List ℕ} {i place made free row : ℕ} (w : BranchMet plan links notes i place made free row) (links' notes' : List ℕ)
    (a : ℕ) : Type 0 where
  pub count : a ≡ arity (get_or plan place 0)
  pub wrote : notes' ≡ set notes made (part_of (get_or plan place 0) row free (get_or w.spot.slots i 0))
  pub low : part_of (get_or plan place 0) row free (get_or w.spot.slots i 0) + 2 ^ 44 < 2 ^ 63 + 2 ^ 32
  pub cell : cell_in (part_of (get_or plan place 0) row free (get_or w.spot.slots i 0)) ≡ get_or plan place 0
  pub opens : Open links' (free + a) (below i a free w.spot.slots)
