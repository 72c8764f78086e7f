-- States and branches of a plan, as the code goes through them (src/tree.rt): what it takes for granted and what it notes.
use Rattle.std.specs.Prelude.{ℕ, suc, ◌+◌, ◌-◌, ◌≤◌, ◌<◌, ◌≡◌, true, List, [], ◌∷◌, ◌++◌, map, length, get_or, drop}
use Rattle.std.proofs.lemmas.List.Edits.{sets}
use Rattle.cell.specs.Cell.{arity, is_var}
use Rattle.table.specs.All.{All}
use Rattle.table.specs.Table.{count, up_from, IsTable}
use Rattle.plan.specs.Runs.{Run, run}
use Rattle.plan.specs.Plans.{Plan, write, branches}
use Rattle.plan.specs.Notes.{Branch, branch, flag, below, notes, word, cell_in}
use Rattle.plan.specs.code.Cells.{Sound, Cells}
use Rattle.plan.specs.code.Fits.{Fits}
use Rattle.plannotes.specs.code.Places.{Open}
use Rattle.plannotes.specs.code.Steps.{finished, Low, Parts}
use Rattle.plannotes.specs.declared.branch.Past.{Past}
use Rattle.limits.specs.Limits.{most_branches, most_plan_cells, most_row_cells, most_rows}

-- a state at a cell of the plan. Its rows have at most `left` cells each, so that there are slots enough below it
pub record Ready (plan links noted : List ℕ) (at k made free row : ℕ) : Type 0 where
  pub rows : List (List ℕ)
  pub tree : Plan k rows
  pub behind : List ℕ
  pub cells : drop at plan ≡ write tree ++ behind
  pub size : length plan ≤ most_plan_cells
  pub some : 0 < length rows
  pub few : row + length rows ≤ most_rows
  pub left : ℕ
  pub deep : left ≤ most_row_cells
  pub fit : All (Fits left k) rows
  pub low : Cells Low tree
  pub enough : free + left ≤ 63 + k
  pub slots : List ℕ
  pub number : length slots ≡ k
  pub opens : Open links free slots
  pub room : made + branches tree ≤ most_branches
  pub array : length noted ≡ most_branches

-- a branch of a state, at a cell of the plan; the state looks at its open place with index i
pub record ReadyAt (plan links noted : List ℕ) (i place k made free row : ℕ) : Type 0 where
  pub group : Run
  pub tree : Plan (arity group.cell + (k - 1)) group.rows
  pub behind : List ℕ
  pub cells : drop place plan ≡ group.cell ∷ (write tree ++ behind)
  pub size : length plan ≤ most_plan_cells
  pub some : 0 < length group.rows
  pub few : row + length group.rows ≤ most_rows
  pub left : ℕ
  pub deep : left ≤ most_row_cells
  pub fit : All (Fits left (arity group.cell + (k - 1))) group.rows
  pub sound : Sound Low (k - 1) group
  pub low : Cells Low tree
  pub enough : free + suc left ≤ 63 + k
  pub here : i < k
  pub slots : List ℕ
  pub number : length slots ≡ k
  pub opens : Open links free slots
  pub room : made + suc (branches tree) ≤ most_branches
  pub array : length noted ≡ most_branches

-- what is noted of it and of all below it
abbrev pub notes_at : {k : ℕ} {rows : List (List ℕ)} → Plan k rows → (cell i : ℕ) (slots : List ℕ) (free row : ℕ) → List Branch
notes_at {rows = rows} p c i slots free row =
    branch c (branches p) row (get_or slots i 0) free (flag (run c rows))
    ∷ notes p (below i (arity c) free slots) (free + arity c) row

-- words are noted from the number `made` on, and so many cells of the plan and so many rows from `row` on are passed
pub record Done (noted noted' words : List ℕ) (place cells made count row rows : ℕ) (p : Past) : Type 0 where
  pub wrote : noted' ≡ sets noted made words
  pub after : p.place ≡ place + cells
  pub next : p.made ≡ made + count
  pub has : p.row ≡ row + rows

-- where there is one row, each variable stands in it as often as in these cells
abbrev pub One : List (List ℕ) → List ℕ → Type 0
One rows cs = (x : List ℕ) → rows ≡ x ∷ [] → (v : ℕ) → is_var v ≡ true → count v x ≡ count v cs

module _ {plan links noted : List ℕ} where
  abbrev pub StateDone : {at k made free row : ℕ} → Ready plan links noted at k made free row → List ℕ → Past → Type 0
  StateDone {at} {k} {made} {free} {row} w noted' p =
      Done noted noted' (map word (notes w.tree w.slots free row)) at (length (write w.tree)) made (branches w.tree) row
      (length w.rows) p

  abbrev pub BranchDone : {i place k made free row : ℕ} → ReadyAt plan links noted i place k made free row → List ℕ → Past → Type 0
  BranchDone {i} {place} {k} {made} {free} {row} w noted' p =
      Done noted noted' (map word (notes_at w.tree w.group.cell i w.slots free row)) place (suc (length (write w.tree))) made
      (suc (branches w.tree)) row (length w.group.rows) p

  -- single branches lead from a state to a lower one: they end where the state does and have all its rows. They are met and have not ended.
  -- With the cells of what is below the lower state, where that has one row, it is known what is noted of them
  pub record Went {at k made free row : ℕ} (w : Ready plan links noted at k made free row) (links' noted' : List ℕ)
      (at' k' made' free' : ℕ) : Type 0 where
    pub lower : Ready plan links' noted' at' k' made' free' row
    pub parts : List ℕ
    pub low : Parts parts
    pub few : All (λ (p : ℕ). Low (cell_in p)) parts
    pub wrote : noted' ≡ sets noted made parts
    pub next : made' ≡ made + length parts
    pub whole : (cs : List ℕ) → One lower.rows cs → One w.rows (map cell_in parts ++ cs)
        × (map word (notes w.tree w.slots free row)
        ≡ finished (branches lower.tree) parts cs ++ map word (notes lower.tree lower.slots free' row))
    pub count : made' + branches lower.tree ≡ made + branches w.tree
    pub same_rows : length lower.rows ≡ length w.rows
    pub after : at' + length (write lower.tree) ≡ at + length (write w.tree)
    pub later : at ≤ at'

  -- as far as they lead: where the lower state has one row, nothing of it is left
  pub record Followed {at k made free row : ℕ} (w : Ready plan links noted at k made free row) (links' noted' : List ℕ)
      (at' k' made' free' : ℕ) : Type 0 where
    pub went : Went w links' noted' at' k' made' free'
    pub ends : One went.lower.rows []

-- an accepted plan, for a table of this width
pub record Accepted (plan noted : List ℕ) (width : ℕ) : Type 0 where
  pub table : List ℕ
  pub rows : List (List ℕ)
  pub is : IsTable table width rows
  pub tree : Plan width rows
  pub cells : plan ≡ write tree
  pub array : length noted ≡ most_branches

abbrev pub AllNoted : {plan noted : List ℕ} {width : ℕ} → Accepted plan noted width → List ℕ → Type 0
AllNoted {noted = noted} {width = width} w noted' = noted' ≡ sets noted 0 (map word (notes w.tree (up_from 1 width) 32 0))
