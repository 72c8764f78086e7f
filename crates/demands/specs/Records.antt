-- W-207, "Edit a row without starting over", sentence by sentence, as statements of what makes and edits a record. proofs/Records proves
-- each of the promises, and src/lib.rt ties it to the entries.
use Rattle.std.specs.Prelude.{ℕ, ◌≤◌, ◌<◌, ◌≡◌, ◌↔◌, List, [], length, drop}
use Rattle.refusal.specs.Refusal.{Refused, refused, Answer, answered, turned}
use Rattle.refusal.specs.declared.Reason.TheVariants as reason
use Rattle.refusal.specs.declared.Input.TheVariants as input
use Rattle.refusal.specs.Read.{read, refuse}
use Rattle.table.specs.Table.{Table, table, table_of, IsTable, others, row_of}
use Rattle.least.specs.Entries.{SameAt}
use Rattle.least.specs.declared.By.TheVariants.{Work}
use Rattle.record.specs.Record.{cells_in, Holds, table_in}
use Rattle.demands.specs.Demands.{Demand1Build, Demand3Build}
use Rattle.record.specs.Edits.{Edit, append, drop-last, replace, edit_of, WorkedOut, Without, Made}
use Rattle.limits.specs.Limits.{most_rows}

-- 02, W-204, "FIGURE for a figure above 15, before the table's": what turns a working out away, and the refusal that it gets
pub data WorkTurned (figure : ℕ) (cells : List ℕ) (refusal : Refused) : Type 0 where
  no-figure : 15 < figure → refusal ≡ refused reason.Figure input.Figure 0 → WorkTurned figure cells refusal
  no_table : figure ≤ 15 → table_of cells ≡ refuse refusal → WorkTurned figure cells refusal

-- "A record comes only from working it out for an accepted table": refused as above, and then nothing is written; otherwise the record holds
-- the table
pub record MakesRecord (figure : ℕ) (cells rec rec' : List ℕ) (answer : Answer) : Type 0 where
  pub refuses : (f : Refused) → (answer ≡ turned f) ↔ WorkTurned figure cells f
  pub untouched : (f : Refused) → answer ≡ turned f → rec' ≡ rec
  pub made : (width : ℕ) (rows : List (List ℕ)) → figure ≤ 15 → IsTable cells width rows
      → Holds rec' figure (table width rows) × (answer ≡ answered width (length rows))

-- "Refusals: FULL to append at 64 rows, LAST to drop the only row, INDEX for a missing r, then 01's from LONG on for the new row, places
-- from its start", and W-208's "against every other row, at 0": what turns an edit away, and the refusal that it gets
pub data EditTurned (T : Table) : Edit → Refused → Type 0 where
  full : {row : List ℕ} → most_rows ≤ length T.rows → EditTurned T (append row) (refused reason.Full input.Table 0)
  last : length T.rows ≤ 1 → EditTurned T drop-last (refused reason.Last input.Table 0)
  index : {r : ℕ} {row : List ℕ} → length T.rows ≤ r → EditTurned T (replace r row) (refused reason.Index input.Table 0)
  bad-append : {row : List ℕ} {f : Refused} → length T.rows < most_rows → row_of T.width T.rows row ≡ refuse f
      → EditTurned T (append row) f
  bad-replace : {r : ℕ} {row : List ℕ} {f : Refused} → r < length T.rows → row_of T.width (others r T.rows) row ≡ refuse f
      → EditTurned T (replace r row) f

-- an edit of a record that holds a table
pub record EditsRecord (e : Edit) (figure : ℕ) (T : Table) (rec rec' : List ℕ) (answer : Answer) : Type 0 where
  pub refuses : (f : Refused) → (answer ≡ turned f) ↔ EditTurned T e f
  -- "a refused edit changes nothing"
  pub untouched : (f : Refused) → answer ≡ turned f → rec' ≡ rec
  -- "each of these entries gives it back": the record holds the edited table
  pub given_back : (T' : Table) → edit_of e T ≡ read T' → Holds rec' figure T' × (answer ≡ answered T'.width (length T'.rows))
  -- "runs that don't contain the changed row keep their entries"
  pub keeps : (T' : Table) → edit_of e T ≡ read T' → (first last : ℕ) → first ≤ last → Without e T first last
      → SameAt first last (drop 2052 rec) (drop 2052 rec')

-- "After any sequence of these from an accepted table, the record equals the one worked out anew from its rows and its W-204 figure"
abbrev pub Anew : Type 0
Anew = (figure : ℕ) (rec old new : List ℕ) (T : Table) (answer : Answer) → Made figure rec T → WorkedOut figure (cells_in T) old new answer
    → rec ≡ new

-- "as one record that every caller now passes": a plan built from a record is the one built from its table by its figure, with no column named
abbrev pub BuildsFrom : (rec room room' : List ℕ) → Answer → Type 0
BuildsFrom rec room room' answer =
    (figure : ℕ) (T : Table) → Holds rec figure T
    → Demand1Build (Work figure) [] (cells_in T) room room' answer × Demand3Build (Work figure) [] (cells_in T) room room' answer

-- of a record that was made the table's part is the table: what reads it answers for that table (row, goal, check, run, jobs, replies)
abbrev pub TablePart : Type 0
TablePart = (figure : ℕ) (rec : List ℕ) (T : Table) → Made figure rec T → (table_in rec ≡ cells_in T) × (table_of (table_in rec) ≡ read T)
