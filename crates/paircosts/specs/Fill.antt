-- What the function of this crate answers: the array that is lent, as it is filled for a table.
use Rattle.std.specs.Prelude.{ℕ, ◌≤◌, ◌<◌, ◌≡◌, ◌≢◌, ◌⊎◌, Bool, List, length, Result}
use Rattle.refusal.specs.Refusal.{Refused}
use Rattle.refusal.specs.declared.Refusal.{Refusal}
use Rattle.refusal.specs.Read.{read, refuse}
use Rattle.table.specs.Table.{Table, TableReads}
use Rattle.table.specs.declared.TableRead.{TableRead}
use Rattle.plan.specs.Plans.{Measure}
use Rattle.state.specs.Flags.{flags_in}
use Rattle.least.specs.Least.{Least}
use Rattle.least.specs.Entries.{between, Entry, whole_in, cost_in, place_in, RightAt, SameAt}
use Rattle.least.specs.Measures.{measure_of, table_by}
use Rattle.least.specs.declared.By.{By}
use Rattle.limits.specs.Limits.{kept_cells, most_rows}

-- two numbers are no pair of so many rows
abbrev pub NoPair : ℕ → ℕ → ℕ → Type 0
NoPair count first last = (last < first) ⊎ (count ≤ last)

-- The array is filled for a table's rows, where these of its arguments are named columns: at each pair of them, the last not before the
-- first, what its rows cost at least and its entry; everywhere else what was there
pub record Filled (measure : Measure) (named : List Bool) (width : ℕ) (rows : List (List ℕ)) (old new : List ℕ) : Type 0 where
  pub whole : (first last : ℕ) → first ≤ last → last < length rows → Least measure named width (between first last rows) (whole_in new first last)
  pub entry : (first last : ℕ) → first ≤ last → last < length rows
      → Entry measure named width rows first last (cost_in new first last) (place_in new first last)
  pub other : (first last : ℕ) → first < most_rows → last < most_rows → NoPair (length rows) first last → SameAt first last old new
  pub size : (length old ≡ kept_cells) × (length new ≡ kept_cells)

-- The pairs that begin before row `top` and end at row `since` or later are asked for. A pair that is not
abbrev pub Unasked : ℕ → ℕ → ℕ → ℕ → Type 0
Unasked top since first last = (top ≤ first) ⊎ (last < since)

-- what is kept is right: at each pair of rows that is not asked for
pub record KeptRight (measure : Measure) (named : List Bool) (width : ℕ) (rows : List (List ℕ)) (top since : ℕ) (kept : List ℕ) : Type 0 where
  pub at : (first last : ℕ) → first ≤ last → last < length rows → Unasked top since first last → RightAt measure named width rows kept first last

-- What the array becomes where the pairs of a table's rows that are asked for are worked out: whatever it holds, all other numbers stay as
-- they are; and where what is kept is right, it is filled for these rows
pub record Refilled (measure : Measure) (named : List Bool) (width : ℕ) (rows : List (List ℕ)) (top since : ℕ) (old new : List ℕ)
    : Type 0 where
  pub same : (first last : ℕ) → first < most_rows → last < most_rows → Unasked top since first last ⊎ NoPair (length rows) first last
      → SameAt first last old new
  pub filled : KeptRight measure named width rows top since old → Filled measure named width rows old new

-- What is answered for a measure, named columns, a table, what is asked for and the array that is lent: FIGURE, or what reading the table
-- answers. A column is named by its bit (02, W-213); bits from the width on name none. Where the table is turned away the array is as it
-- was, and so is one of any other length than 12,288
pub record Fills (by : By) (named : ℕ) (cells : List ℕ) (top since : ℕ) (old new : List ℕ) (answer : Result TableRead Refusal) : Type 0 where
  pub reads : TableReads (table_by by cells) answer
  pub size : length new ≡ length old
  pub turned-away : (f : Refused) → table_by by cells ≡ refuse f → new ≡ old
  pub other_length : length old ≢ kept_cells → new ≡ old
  pub accepted : (T : Table) → table_by by cells ≡ read T → length old ≡ kept_cells
      → Refilled (measure_of by) (flags_in T.width named) T.width T.rows top since old new
