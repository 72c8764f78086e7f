-- How a plan is written, state by state (01, "As cells, a plan is written state by state, parents first"), from kept places of which
-- nothing is known: it is the plan that follows them. A state's rows are held as the check holds them: by the masks of their open cells.
use Rattle.std.specs.Prelude.{Result, Ok, Err, ℕ, suc, ◌+◌, ◌-◌, ◌^◌, ◌≤◌, ◌<◌, ◌≡◌, Bool, List, [], ◌∷◌, ◌++◌, length, take, drop}
use Rattle.builder.specs.declared.BuiltPlan.{BuiltPlan}
use Rattle.refusal.specs.declared.Refusal.{Refusal}
use Rattle.std.proofs.lemmas.List.Edits.{sets}
use Rattle.cell.specs.Cell.{arity}
use Rattle.refusal.specs.declared.Reason.TheVariants as reason
use Rattle.refusal.specs.declared.Input.TheVariants as input
use Rattle.refusal.specs.Read.{read}
use Rattle.table.specs.All.{All}
use Rattle.table.specs.Table.{Table, TableReads}
use Rattle.table.specs.declared.TableRead.{TableRead}
use Rattle.plan.specs.Runs.{Run}
use Rattle.plan.specs.Plans.{Plan, Branches, write, writes, Measure}
use Rattle.plan.specs.code.Fits.{Fits}
use Rattle.state.specs.Flags.{flags_in, mask_from, past_from}
use Rattle.state.specs.Mask.{kept}
use Rattle.state.specs.declared.flags.Named.{Named}
use Rattle.state.specs.States.{rows_in, runs_in, Same}
use Rattle.state.specs.code.First.{TableRows}
use Rattle.least.specs.Least.{Least}
use Rattle.least.specs.Entries.{Entry, whole_in, cost_in, place_in}
use Rattle.least.specs.Measures.{measure_of, table_by}
use Rattle.least.specs.declared.By.{By}
use Rattle.least.specs.code.Follow.{Follows, FollowsIn}
use Rattle.limits.specs.Limits.{kept_cells, most_plan_cells, most_row_cells, most_rows}

-- the open cells of the row that begins at `start`, by its mask
abbrev pub open_in : (t : List ℕ) (start mask : ℕ) → List ℕ
open_in t start mask = kept mask (drop start t)

-- the cells of a row's plan where no column is named: at each state the leftmost place is taken (01, "a single row agrees with itself
-- everywhere"), which is the row's first open cell, and its one branch goes on with the others
unfoldable pub chain : List ℕ → List ℕ
chain [] = 1 ∷ []
chain (c ∷ cs) = 0 ∷ (1 ∷ (c ∷ chain cs))

-- masks ms and a column hs for 64 rows, what is kept for every pair of rows, and the cells that are written
pub record Room (ms hs kept out : List ℕ) : Type 0 where
  pub masks : length ms ≡ most_rows
  pub column : length hs ≡ most_rows
  pub pairs : length kept ≡ kept_cells
  pub cells : length out ≡ most_plan_cells

-- A state whose plan is to be written at a place; and the branches of the runs of rows whose place i is closed. `ss` is where the table's
-- rows start; `named` are the flags of the state's open places as bits (02, W-213), of which none is past them
pub record ToWrite (table ss ms hs kept out : List ℕ) (first end opens named at : ℕ) : Type 0 where
  pub room : Room ms hs kept out
  pub some : first < end
  pub few : end ≤ most_rows
  pub rows : All (Fits most_row_cells opens) (rows_in table ss ms first end)
  pub flags : named < 2 ^ opens
  pub plan : Plan opens (rows_in table ss ms first end)
  pub follows : Follows kept (flags_in opens named) first plan
  pub fits : at + length (write plan) ≤ most_plan_cells

pub record ToWriteAll (table ss ms hs kept out : List ℕ) (first end others named i at : ℕ) : Type 0 where
  pub room : Room ms hs kept out
  pub order : first ≤ end
  pub few : end ≤ most_rows
  pub each : All (λ (g : Run). All (Fits most_row_cells (arity g.cell + others)) g.rows) (runs_in table ss ms hs first end)
  pub place : i ≤ others
  pub flags : named < 2 ^ suc others
  pub many : others < most_row_cells
  pub plans : Branches others (runs_in table ss ms hs first end)
  pub follows : FollowsIn kept (flags_in (suc others) named) i first plans
  pub fits : at + length (writes plans) ≤ most_plan_cells

-- these cells are written from a place on, up to the next; masks and column of the rows after these are as they were
pub record Written (ms hs out ms' hs' out' cells : List ℕ) (end at next : ℕ) : Type 0 where
  pub next-is : next ≡ at + length cells
  pub out-is : out' ≡ sets out at cells
  pub masks : Same end ms ms'
  pub column : Same end hs hs'

-- the cells of the plan for a table's rows, so many at the front, and what is kept as the cost of all rows
pub record Planned (table : Table) (named : ℕ) (kept cells : List ℕ) (size cost : ℕ) : Type 0 where
  pub plan : Plan table.width table.rows
  pub follows : Follows kept (flags_in table.width named) 0 plan
  pub cells_are : take size cells ≡ write plan
  pub size_is : size ≡ length (write plan)
  pub few : size ≤ most_plan_cells
  pub cost-is : cost ≡ whole_in kept 0 (length table.rows - 1)

-- what is known of a table that was read, and of columns: where it is accepted, its rows; and no bit is past its width where no column is
pub record Known (cells : List ℕ) (answer : Result TableRead Refusal) (named : Named) : Type 0 where
  pub rows : {x : TableRead} → answer ≡ Ok x → TableRows cells x.starts x.width x.rows
  pub flags : (width : ℕ) → named.past ≤ width → named.mask < 2 ^ width

-- what is kept is a table's: the least cost of all its rows by a measure, and the entry of each pair of them
pub record KeptOf (measure : Measure) (fs : List Bool) (T : Table) (kept : List ℕ) : Type 0 where
  pub least : Least measure fs T.width T.rows (whole_in kept 0 (length T.rows - 1))
  pub entries : (first last : ℕ) → first ≤ last → last < length T.rows
      → Entry measure fs T.width T.rows first last (cost_in kept first last) (place_in kept first last)

-- what was answered for cells is what a measure asks, the columns are those of a list, as bits and one more than the largest, and where the
-- cells are a table, what is kept is that table's for these columns
pub record Right (by : By) (columns cells : List ℕ) (answer : Result TableRead Refusal) (named : Named) (kept : List ℕ) : Type 0 where
  pub reads : TableReads (table_by by cells) answer
  pub mask : named.mask ≡ mask_from 0 columns
  pub past : named.past ≡ past_from 0 columns
  pub kept_of : (T : Table) → table_by by cells ≡ read T → KeptOf (measure_of by) (flags_in T.width named.mask) T kept

-- what is answered for a plan of so many cells and such a cost: its cells are put at the front of the room where they fit, and otherwise
-- nothing is written
pub data Put (cells : List ℕ) (size cost : ℕ) (room room' : List ℕ) : Result BuiltPlan Refusal → Type 0 where
  fitted : size ≤ length room → room' ≡ take size cells ++ drop size room → Put cells size cost room room' (Ok (record { cells = size; cost = cost }))
  short : length room < size → room' ≡ room
      → Put cells size cost room room' (Err (record { reason = reason.Room; input = input.Lent; place = size }))
