-- What is noted of a plan for a run (01, "A run": "it tests the goal only at the branches it counts"): one number for each branch,
-- in plan order, that is a branch, then all below it, then the next. A run needs nothing else of the plan, neither its cells nor the table.
use Rattle.std.specs.Prelude.{ℕ, suc, ◌+◌, ◌*◌, ◌/◌, ◌%◌, ◌^◌, ◌<◌, Bool, false, cond, ◌&&◌, ◌||◌, ltb, length, get_or, take, drop}
use mathlib.Core.List.{List, [], ◌∷◌, ◌++◌, flatten}
use Rattle.cell.specs.Cell.{arity, is_var}
use Rattle.table.specs.Table.{up_from, count}
use Rattle.plan.specs.Runs.{Run}
use Rattle.plan.specs.Plans.{Plan, leaf, node, Branches, end, next, branches}

-- 02, W-209, "a variable used twice": some variable stands twice in a list of cells
unfoldable pub twice : List ℕ → Bool
twice [] = false
twice (c ∷ xs) = (is_var c && ltb 0 (count c xs)) || twice xs

-- a branch for a variable, where it and the cells left of its only row have one twice: the rest of the row is run by itself
abbrev pub repeats : ℕ → List ℕ → Bool
repeats c xs = is_var c && twice (c ∷ xs)

abbrev pub flag : Run → Bool
flag g = repeats g.cell (flatten g.rows)

-- What is noted of one branch. Slots are numbers for open places, given out on the way down: the arguments of a branch's cell get new ones,
-- whatever the goal is.
pub record Branch : Type 0 where
  -- its cell
  pub cell : ℕ
  -- how many branches are below it, which are left out where its test fails; where there is none, a leaf is
  pub skip : ℕ
  -- its first row
  pub row : ℕ
  -- the slot of the place that its state looks at
  pub slot : ℕ
  -- the first slot that is free below it
  pub next : ℕ
  -- 1 where the rest of the row is run by itself, otherwise 0
  pub alone : ℕ

abbrev pub branch : (cell skip row slot next : ℕ) → Bool → Branch
branch c s r l n b = record { cell = c; skip = s; row = r; slot = l; next = n; alone = cond b 1 0 }

-- the slots of the open places below a branch at place i, whose cell has a arguments: new ones from `free` on for the arguments
abbrev pub below : (i a free : ℕ) → List ℕ → List ℕ
below i a free slots = take i slots ++ (up_from free a ++ drop (suc i) slots)

-- the branches of a plan whose open places have these slots; slots from `free` on are free, and `row` is the plan's first row. Of the branches of a
-- state each begins with the row after those of the one before it
unfoldable mutual
  pub notes : {k : ℕ} {rows : List (List ℕ)} → Plan k rows → (slots : List ℕ) (free row : ℕ) → List Branch
  notes leaf slots free row = []
  notes (node i h bs) slots free row = notes_in bs i slots free row

  pub notes_in : {k : ℕ} {gs : List Run} → Branches k gs → (i : ℕ) (slots : List ℕ) (free row : ℕ) → List Branch
  notes_in end i slots free row = []
  notes_in (next {g = g} p bs) i slots free row =
      branch g.cell (branches p) row (get_or slots i 0) free (flag g)
      ∷ (notes p (below i (arity g.cell) free slots) (free + arity g.cell) row
      ++ notes_in bs i slots free (row + length g.rows))

-- One number for it: the cell in bits 31..0, skip in 43..32, row in 49..44, next in 56..51, slot in 62..57, alone in 63.
unfoldable pub word : Branch → ℕ
word b = b.cell + b.skip * 2 ^ 32 + b.row * 2 ^ 44 + b.next * 2 ^ 51 + b.slot * 2 ^ 57 + b.alone * 2 ^ 63

-- and the parts of a number
abbrev pub cell_in : ℕ → ℕ
cell_in w = w % 2 ^ 32

abbrev pub skip_in : ℕ → ℕ
skip_in w = w / 2 ^ 32 % 2 ^ 12

abbrev pub row_noted : ℕ → ℕ
row_noted w = w / 2 ^ 44 % 2 ^ 6

abbrev pub slot_in : ℕ → ℕ
slot_in w = w / 2 ^ 57 % 2 ^ 6

abbrev pub next_in : ℕ → ℕ
next_in w = w / 2 ^ 51 % 2 ^ 6

abbrev pub alone_in : ℕ → ℕ
alone_in w = w / 2 ^ 63

-- every part has the bits that it needs, and the slots of the cell's arguments are below 64
pub record BranchFits (b : Branch) : Type 0 where
  pub cell : b.cell < 2 ^ 32
  pub skip : b.skip < 2 ^ 12
  pub row : b.row < 2 ^ 6
  pub slot : b.slot < 2 ^ 6
  pub next : b.next + arity b.cell < 2 ^ 6
  pub alone : b.alone < 2
