-- The code's own steps: what the check of a state is given, and what it answers, which is the reading of the definition.
use Rattle.std.specs.Prelude.{ℕ, suc, ◌+◌, ◌^◌, ◌≤◌, ◌<◌, ◌≡◌, List, [], ◌∷◌, Result, Ok, Err, eqb, ltb, length, drop}
use Rattle.cell.specs.Cell.{arity}
use Rattle.table.specs.All.{All}
use Rattle.refusal.specs.Refusal.{refused, told}
use Rattle.refusal.specs.Read.{Read, read, refuse, when, and_then}
use Rattle.refusal.specs.declared.Input.TheVariants as input
use Rattle.refusal.specs.declared.Reason.TheVariants as reason
use Rattle.table.specs.Table.{Table, table_of}
use Rattle.plan.specs.Runs.{Run}
use Rattle.plan.specs.Check.{Seen, seen, cell_then, branches_from, state_from, plan_with}
use Rattle.plan.specs.code.Fits.{Fits}
use Rattle.state.specs.Flags.{flags_in}
use Rattle.state.specs.Mask.{kept}
use Rattle.state.specs.States.{rows_in, runs_in, Same}
use Rattle.refusal.specs.declared.Refusal.{Refusal}
use Rattle.checker.specs.declared.check.Seen as code
use Rattle.limits.specs.Limits.{most_row_cells, most_rows}

-- what the check of a plan answers with a mask of columns and one more than the largest number named: `plan_under` of plan/specs/Check where both
-- are a list's (proofs/EntryLaws)
abbrev pub named_plan : (mask past : ℕ) (t p : List ℕ) → Read ℕ
named_plan mask past t p =
    and_then (table_of t) (λ (T : Table). when (ltb T.width past) (refused reason.Column input.Columns 0) (plan_with (flags_in T.width mask) T p))

-- what the code answers of a state: its branches and the place after it, or a refusal
abbrev pub Step : Type 0
Step = Result code.Seen Refusal

-- what is read where the code answers so: so many branches, and the cells from the next place on; or a refusal
abbrev pub said_by : List ℕ → Step → Read Seen
said_by p (Ok s) = read (seen s.branches s.next (drop s.next p))
said_by p (Err f) = refuse (told f)

-- what is read from place at on lies in the plan, and has a cell for each of its branches
abbrev pub Inside : List ℕ → ℕ → Step → Type 0
Inside p at (Ok s) = (at + s.branches ≤ s.next) × (s.next ≤ length p)
Inside p at (Err f) = Unit {0}

-- the reading of a leaf with so many rows (`leaf_from`), so many branches being counted above it; and a leaf is done
abbrev pub leaf_after : ℕ → ℕ → ℕ → List ℕ → Read Seen
leaf_after rows count p xs = cell_then (λ c. eqb c rows) reason.Rows p (λ c ys. read (seen count (suc p) ys)) xs

pub record LeafDone (p : List ℕ) (rows count at : ℕ) (r : Step) : Type 0 where
  pub says : leaf_after rows count at (drop at p) ≡ said_by p r
  pub inside : (from : ℕ) → from + count ≤ at → Inside p from r

-- the reading of a state with one row, no column being named; and such a state is done: the row is what the mask leaves open of the table's row
-- that starts there
abbrev pub alone_from : ℕ → List ℕ → List ℕ → ℕ → Read Seen
alone_from k row p at = state_from most_row_cells [] k (row ∷ []) at (drop at p)

pub record AloneDone (t : List ℕ) (start mask : ℕ) (p : List ℕ) (k at : ℕ) (r : Step) : Type 0 where
  pub says : alone_from k (kept mask (drop start t)) p at ≡ said_by p r
  pub inside : Inside p at r

-- the room of the check: masks ms and column hs of 64 rows; the rows first to before end; a place of the plan p
pub record Room (ms hs p : List ℕ) (first end at : ℕ) : Type 0 where
  pub masks : length ms ≡ 64
  pub column : length hs ≡ 64
  pub here : at ≤ length p
  pub few : end ≤ most_rows
  pub some : first ≤ end

-- a state with k open places, and the branches at place i of the runs of rows whose place is closed, k being open beside their arguments. No
-- flag stands past the open places
pub record Ready (t ss ms hs p : List ℕ) (first end named k at : ℕ) : Type 0 where
  pub room : Room ms hs p first end at
  pub row : first < end
  pub rows : All (Fits most_row_cells k) (rows_in t ss ms first end)
  pub flags : named < 2 ^ k

pub record ReadyIn (t ss ms hs p : List ℕ) (first end named i k at : ℕ) : Type 0 where
  pub room : Room ms hs p first end at
  pub runs : All (λ (g : Run). All (Fits most_row_cells (arity g.cell + k)) g.rows) (runs_in t ss ms hs first end)
  pub flags : named < 2 ^ suc k
  pub place : i ≤ k
  pub opens : k < 32

-- a state is done, and some branches are: their reading; masks and column of the rows after them are as they were
pub record Done (t ss ms hs ms' hs' p : List ℕ) (first end named k at : ℕ) (r : Step) : Type 0 where
  pub says : state_from most_row_cells (flags_in k named) k (rows_in t ss ms first end) at (drop at p) ≡ said_by p r
  pub inside : Inside p at r
  pub masks : Same end ms ms'
  pub column : Same end hs hs'

pub record DoneIn (t ss ms hs ms' hs' p : List ℕ) (first end named i k at : ℕ) (r : Step) : Type 0 where
  pub says : branches_from (state_from most_row_cells) (flags_in (suc k) named) i k (runs_in t ss ms hs first end) at (drop at p) ≡ said_by p r
  pub inside : Inside p at r
  pub masks : Same end ms ms'
  pub column : Same end hs hs'
