-- What is still to be walked: frames, the innermost first. These definitions describe the code's own state; no promise of a public function
-- cites them.
use Rattle.std.specs.Prelude.{ℕ, suc, ◌+◌, ◌≤◌, ◌<◌, ◌≡◌, ◌≢◌, true, List, [], ◌∷◌, ◌++◌, length}
use Rattle.cell.specs.Cell.{is_var}
use Rattle.table.specs.All.{All}
use Rattle.plan.specs.Runs.{Run}
use Rattle.plan.specs.Plans.{Branches, branches_in}
use Rattle.plan.specs.code.Cells.{CellsIn}
use Rattle.plan.specs.code.Rows.{row_count}
use Rattle.answer.specs.Skeleton.{hole}
use Rattle.answer.specs.code.Tree.{hits_in, tried_in}
use Rattle.plan.specs.Notes.{Branch, notes_in}
use Rattle.walking.specs.code.Link.{Linked}

-- the rest of a state's branches: k places are open beside the one looked at, slots from `free` on are free, R is left of the goal
pub record Frame : Type 0 where
  pub k : ℕ
  pub groups : List Run
  pub trees : Branches k groups
  pub place : ℕ
  pub free : ℕ
  pub slots : List ℕ
  pub R : List ℕ

abbrev pub frame : {k : ℕ} {groups : List Run} → Branches k groups → (place free : ℕ) (slots R : List ℕ) → Frame
frame {k} {groups} trees i m slots R = record { k = k; groups = groups; trees = trees; place = i; free = m; slots = slots; R = R }

-- a cell of a table's row: a variable is below 32, and it marks no open place
abbrev pub RowCell : ℕ → Type 0
RowCell c = (is_var c ≡ true → c < 32) × (c ≢ hole)

-- their branches are of a table's rows
abbrev pub SoundOf : List Frame → Type 0
SoundOf fs = All (λ (f : Frame). CellsIn RowCell f.trees) fs

-- their notes, the first row being `row`
abbrev pub notes_of : List Frame → ℕ → List Branch
notes_of [] row = []
notes_of (f ∷ fs) row = notes_in f.trees f.place f.slots f.free row ++ notes_of fs (row + row_count f.groups)

-- their hits, the first row being `row`
abbrev pub hits_of : List Frame → ℕ → List ℕ
hits_of [] row = []
hits_of (f ∷ fs) row = hits_in f.trees f.place f.free f.R row ++ hits_of fs (row + row_count f.groups)

-- how many of their branches are tried
abbrev pub tried_of : List Frame → ℕ
tried_of [] = 0
tried_of (f ∷ fs) = tried_in f.trees f.place f.free f.R + tried_of fs

-- how many rows they have
abbrev pub rows_of : List Frame → ℕ
rows_of [] = 0
rows_of (f ∷ fs) = row_count f.groups + rows_of fs

-- The arrays stand for what is left of the goal at a frame, for its branches, from n to e.
pub record Held (G rep sib bound args until refers : List ℕ) (n e : ℕ) (f : Frame) : Type 0 where
  pub linked : Linked G rep sib bound args until refers n e f.free f.slots f.R
  pub width : length f.slots ≡ suc f.k
  pub low : f.place ≤ f.k

-- for all frames, the first branch being number n; slots from `top` on are free
pub data Stands (G rep sib bound args until refers : List ℕ) : List Frame → (n top : ℕ) → Type 0 where
  nothing : {n top : ℕ} → Stands G rep sib bound args until refers [] n top
  within : {f : Frame} {fs : List Frame} {n top : ℕ} → Held G rep sib bound args until refers n (n + branches_in f.trees) f → f.free ≤ top
      → Stands G rep sib bound args until refers fs (n + branches_in f.trees) f.free → Stands G rep sib bound args until refers (f ∷ fs) n top
