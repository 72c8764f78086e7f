-- 02, W-207: what makes a record, and what an edit makes of a table and of its record.
use Rattle.std.specs.Prelude.{ℕ, suc, ◌-◌, ◌<◌, ◌≡◌, ◌⊎◌, List, [], ◌∷◌, ◌++◌, leb, length, set, take}
use Rattle.refusal.specs.Refusal.{Refused, refused, Answer, turned}
use Rattle.refusal.specs.declared.Reason.TheVariants as reason
use Rattle.refusal.specs.declared.Input.TheVariants as input
use Rattle.refusal.specs.Read.{Read, read, refuse, when, and_then}
use Rattle.table.specs.Table.{Table, table, row_of, others, table_says}
use Rattle.least.specs.Measures.{table_by}
use Rattle.least.specs.declared.By.TheVariants.{Work}
use Rattle.record.specs.Record.{Holds}
use Rattle.limits.specs.Limits.{most_rows}

-- "working it out for an accepted table": FIGURE, then the table's refusals; a refusal leaves the record as it was
pub data WorkedOut (figure : ℕ) (cells rec rec' : List ℕ) (answer : Answer) : Type 0 where
  no_record : (f : Refused) → table_by (Work figure) cells ≡ refuse f → answer ≡ turned f → rec' ≡ rec
      → WorkedOut figure cells rec rec' answer
  worked : (T : Table) → table_by (Work figure) cells ≡ read T → answer ≡ table_says (read T) → Holds rec' figure T
      → WorkedOut figure cells rec rec' answer

-- "Append a row at the end, drop the last, replace row r"
pub data Edit : Type 0 where
  append : (row : List ℕ) → Edit
  drop-last : Edit
  replace : (r : ℕ) (row : List ℕ) → Edit

-- the table that an edit makes, or why it is turned away. "FULL to append at 64 rows, LAST to drop the only row, INDEX for a missing r,
-- then 01's from LONG on for the new row"; SAME "against every other row" (W-208)
unfoldable pub edit_of : Edit → Table → Read Table
edit_of (append row) T =
    when (leb most_rows (length T.rows)) (refused reason.Full input.Table 0)
    (and_then (row_of T.width T.rows row) (λ (_ : ℕ). read (table T.width (T.rows ++ (row ∷ [])))))
edit_of drop-last T =
    when (leb (length T.rows) 1) (refused reason.Last input.Table 0)
    (read (table T.width (take (length T.rows - 1) T.rows)))
edit_of (replace r row) T =
    when (leb (length T.rows) r) (refused reason.Index input.Table 0)
    (and_then (row_of T.width (others r T.rows) row) (λ (_ : ℕ). read (table T.width (set T.rows r row))))

-- What an edit answers of a record that holds a table, and what the record then is: what is answered for the new table, with the record
-- that holds it; or, "a refused edit changes nothing", the refusal, with the record as it was
pub data Edited (e : Edit) (figure : ℕ) (T : Table) (rec rec' : List ℕ) (answer : Answer) : Type 0 where
  no-edit : (f : Refused) → edit_of e T ≡ refuse f → answer ≡ turned f → rec' ≡ rec → Edited e figure T rec rec' answer
  edit : (T' : Table) → edit_of e T ≡ read T' → answer ≡ table_says (read T') → Holds rec' figure T' → Edited e figure T rec rec' answer

-- "runs that don't contain the changed row": the run of a table's rows from the first to the last is one of these
abbrev pub Without : Edit → Table → (first last : ℕ) → Type 0
Without (append row) T first last = last < length T.rows
Without drop-last T first last = suc last < length T.rows
Without (replace r row) T first last = (last < length T.rows) × ((r < first) ⊎ (last < r))

-- "A record comes only from working it out for an accepted table and from the edits below": a record that was so made of a table, with
-- the table that it is of now
pub data Made (figure : ℕ) : (rec : List ℕ) (T : Table) → Type 0 where
  worked-out : {cells rec rec' : List ℕ} {answer : Answer} {T : Table} → WorkedOut figure cells rec rec' answer
      → table_by (Work figure) cells ≡ read T → Made figure rec' T
  edited : {rec rec' : List ℕ} {T T' : Table} {answer : Answer} (e : Edit) → Made figure rec T → Edited e figure T rec rec' answer
      → edit_of e T ≡ read T' → Made figure rec' T'
  refused-edit : {rec rec' : List ℕ} {T : Table} {answer : Answer} {f : Refused} (e : Edit) → Made figure rec T
      → Edited e figure T rec rec' answer → edit_of e T ≡ refuse f → Made figure rec' T
