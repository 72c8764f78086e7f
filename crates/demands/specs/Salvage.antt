-- W-212, "Get the shop running from a bad card", sentence by sentence, as statements of what the entry is given and what it answers.
-- proofs/Salvage proves each of the entry's promise, and src/lib.rt ties it to the entry.
--
-- `file` are any bytes. `table`, `plan`, `bad`, `report` are the three rooms and the report as they were lent, with a stroke as they are after
-- the call. `SoundAt file k`, `Holds file table plan` and `WritesFile` are W-211's (specs/Files).
use Rattle.std.specs.Prelude.{ℕ, ◌+◌, ◌-◌, ◌*◌, ◌/◌, ◌%◌, ◌^◌, ◌≤◌, ◌<◌, ◌≡◌, ◌↔◌, length, get_or, take, drop}
use mathlib.Core.List.{List, [], ◌∷◌, ◌++◌, Memᴰ, flatten}
use Rattle.refusal.specs.Refusal.{Refused, refused, Answer, answered, turned}
use Rattle.refusal.specs.declared.Reason.TheVariants as reason
use Rattle.refusal.specs.declared.Input.TheVariants as input
use Rattle.table.specs.All.{All}
use Rattle.table.specs.Table.{Row, Distinct, IsTable}
use Rattle.plan.specs.Plans.{Plan, write}
use Rattle.least.specs.declared.By.TheVariants.{Work}
use Rattle.answer.specs.Run.{Ascends}
use Rattle.octets.specs.Octets.{AreWords}
use Rattle.blocks.specs.Blocks.{whole, block_at}
use Rattle.filing.specs.Files.{file_of}
use Rattle.demands.specs.Demands.{LeastBy}
use Rattle.demands.specs.Files.{SoundAt, FileHolds, WritesFile}
use Rattle.limits.specs.Limits.{most_columns, most_rows}

-- "bad or missing block; a part of a block is a bad one": a block that is neither is there, whole, and sound
pub record SoundBlock (file : List ℕ) (k : ℕ) : Type 0 where
  pub there : k < whole file
  pub sound : SoundAt file k

-- a cell by its number, 125 to a block after the block's number
abbrev pub cell_on : List ℕ → ℕ → ℕ
cell_on file j = get_or (block_at file (j / 125)) (1 + j % 125) 0

-- the first four: table size, plan size, width and count
module _ (file : List ℕ) where
  abbrev pub table_size_on : ℕ
  table_size_on = cell_on file 0

  abbrev pub plan_size_on : ℕ
  plan_size_on = cell_on file 1

  abbrev pub width_on : ℕ
  width_on = cell_on file 2

  abbrev pub count_on : ℕ
  count_on = cell_on file 3

-- "HEAD when block 0 is missing or bad or its width or count is out of range": a file that has none of these
pub record Headed (file : List ℕ) : Type 0 where
  pub block : SoundBlock file 0
  pub width-in : (1 ≤ width_on file) × (width_on file ≤ most_columns)
  pub count-in : (1 ≤ count_on file) × (count_on file ≤ most_rows)

-- "rows from the top that the table's checks accept and that end within the table size and before the first bad or missing block": rows of 01
-- of the file's width, none doubled (W-208) and no more than it counts, which are its cells from cell 4 on; the table size counts width and
-- count too, and each block in which there is a cell up to the rows' end is sound
pub record RunOf (file : List ℕ) (rows : List (List ℕ)) : Type 0 where
  pub each : All (Row (width_on file)) rows
  pub apart : Distinct rows
  pub few : length rows ≤ count_on file
  pub cells : (j : ℕ) → j < length (flatten rows) → get_or (flatten rows) j 0 ≡ cell_on file (4 + j)
  pub within : length (flatten rows) ≤ table_size_on file - 2
  pub before : (k : ℕ) → 125 * k < 4 + length (flatten rows) → SoundBlock file k

-- "keeps the longest run of rows"
pub record Longest (file : List ℕ) (rows : List (List ℕ)) : Type 0 where
  pub run : RunOf file rows
  pub longest : (others : List (List ℕ)) → RunOf file others → length others ≤ length rows

-- the rows kept, of a file that is refused neither by HEAD nor by NONE, and the table that they are
pub record RowsKept (file : List ℕ) (rows : List (List ℕ)) : Type 0 where
  pub head : Headed file
  pub are : Longest file rows
  pub some : 1 ≤ length rows

abbrev pub table_with : List ℕ → List (List ℕ) → List ℕ
table_with file rows = width_on file ∷ length rows ∷ flatten rows

-- "If that is all rows, every plan cell is in a sound block and the check accepts, the plan is kept": the plan's cells come after the table's, and
-- the check accepts what a plan of the rows writes (demand 3)
pub record OldPlan (file : List ℕ) (rows : List (List ℕ)) (cells : List ℕ) : Type 0 where
  pub all : length rows ≡ count_on file
  pub size : length cells ≡ plan_size_on file
  pub same : (j : ℕ) → j < plan_size_on file → get_or cells j 0 ≡ cell_on file (2 + table_size_on file + j)
  pub sound : (j : ℕ) → j < plan_size_on file → SoundBlock file ((2 + table_size_on file + j) / 125)
  pub tree : Plan (width_on file) rows
  pub written : write tree ≡ cells

-- "otherwise a new least plan (figure 0) is built": whether the plan was kept, as the report has it, 1 or 0, and the plan's cells
pub data PlanOut (file : List ℕ) (rows : List (List ℕ)) : ℕ → List ℕ → Type 0 where
  old : {cells : List ℕ} → OldPlan file rows cells → PlanOut file rows 1 cells
  new : {cells : List ℕ} (cost : ℕ) → ((others : List ℕ) → OldPlan file rows others → ⊥) → LeastBy (Work 0) (table_with file rows) cells cost
      → PlanOut file rows 0 cells

-- "and each bad block": the numbers of the blocks that are there, the part at the end with them, and are not sound, ascending
pub record BadBlocks (file numbers : List ℕ) : Type 0 where
  pub ascends : Ascends 0 numbers
  pub exactly : (k : ℕ) → Memᴰ k numbers ↔ ((k < (length file + 511) / 512) × (SoundBlock file k → ⊥))

-- all that is had of a file
pub record Had (file : List ℕ) (rows : List (List ℕ)) (keeps : ℕ) (cells numbers : List ℕ) : Type 0 where
  pub kept : RowsKept file rows
  pub plan : PlanOut file rows keeps cells
  pub blocks : BadBlocks file numbers

-- "Refusals: HEAD .., NONE when no row is kept, then ROOM": what turns a file away, and the refusal that it gets. ROOM is of the table's room, of
-- the plan's, then of the bad blocks', its place what is needed there. An answer has 48 bits for a place, so of so many blocks it has what fits
pub data SalvageTurned (file table plan bad : List ℕ) (refusal : Refused) : Type 0 where
  no-head : (Headed file → ⊥) → refusal ≡ refused reason.Head input.File 0 → SalvageTurned file table plan bad refusal
  no_row : Headed file → Longest file [] → refusal ≡ refused reason.None input.File 0 → SalvageTurned file table plan bad refusal
  table-short : (rows : List (List ℕ)) → RowsKept file rows → length table < length (table_with file rows)
      → refusal ≡ refused reason.Room input.Lent (length (table_with file rows)) → SalvageTurned file table plan bad refusal
  plan-short : (rows : List (List ℕ)) (keeps : ℕ) (cells : List ℕ) → RowsKept file rows → PlanOut file rows keeps cells
      → length (table_with file rows) ≤ length table → length plan < length cells → refusal ≡ refused reason.Room input.Lent (length cells)
      → SalvageTurned file table plan bad refusal
  bad-short : (rows : List (List ℕ)) (keeps : ℕ) (cells numbers : List ℕ) → Had file rows keeps cells numbers
      → length (table_with file rows) ≤ length table → length cells ≤ length plan → length bad < length numbers
      → refusal ≡ refused reason.Room input.Lent (length numbers % 2 ^ 48) → SalvageTurned file table plan bad refusal

-- with nothing written (demand 1). Of a file below 2^57 bytes, and so of any that a machine can lend, the place is whole
pub record SalvageRefused (file table plan bad report table' plan' bad' report' : List ℕ) (answer : Answer) : Type 0 where
  pub refuses : (f : Refused) → (answer ≡ turned f) ↔ SalvageTurned file table plan bad f
  pub untouched : (f : Refused) → answer ≡ turned f → (table' ≡ table) × (plan' ≡ plan) × (bad' ≡ bad) × (report' ≡ report)
  pub many : (rows : List (List ℕ)) (keeps : ℕ) (cells numbers : List ℕ) → Had file rows keeps cells numbers
      → length (table_with file rows) ≤ length table → length cells ≤ length plan → length bad < length numbers → length file < 2 ^ 57
      → answer ≡ turned (refused reason.Room input.Lent (length numbers))

-- "It reports rows kept, rows dropped, whether the plan was kept, and each bad block": what the rooms and the report hold once all that is had of
-- a file is written. Table, plan and numbers are the first of their rooms, the rest being as it was; the report has the three lengths too
pub record Written (file : List ℕ) (rows : List (List ℕ)) (keeps : ℕ) (cells numbers table plan bad table' plan' bad' report' : List ℕ)
    (answer : Answer) : Type 0 where
  pub told : answer ≡ answered (length rows) (count_on file - length rows)
  pub table_is : table' ≡ table_with file rows ++ drop (length (table_with file rows)) table
  pub plan-is : plan' ≡ cells ++ drop (length cells) plan
  pub bad-is : bad' ≡ numbers ++ drop (length numbers) bad
  pub report-is : report' ≡ length rows ∷ (count_on file - length rows) ∷ keeps ∷ length (table_with file rows) ∷ length cells ∷ length numbers ∷ []

-- that is so where the rooms are enough; and whatever is answered, it is so of what is had
pub record Salvages (file table plan bad table' plan' bad' report' : List ℕ) (answer : Answer) : Type 0 where
  pub saves : (rows : List (List ℕ)) (keeps : ℕ) (cells numbers : List ℕ) → Had file rows keeps cells numbers
      → length (table_with file rows) ≤ length table → length cells ≤ length plan → length numbers ≤ length bad
      → Written file rows keeps cells numbers table plan bad table' plan' bad' report' answer
  pub only : (m n : ℕ) → answer ≡ answered m n
      → (rows : List (List ℕ)) × (keeps : ℕ) × (cells : List ℕ) × (numbers : List ℕ) × Had file rows keeps cells numbers
      × Written file rows keeps cells numbers table plan bad table' plan' bad' report' answer

-- "A file W-211 accepts comes through unchanged": its table and its plan, with no row dropped and no block bad; and writing what is saved gives
-- its bytes again
pub record Same (file t p : List ℕ) (count : ℕ) (table plan bad table' plan' bad' report' : List ℕ) (answer : Answer) : Type 0 where
  pub told : answer ≡ answered count 0
  pub table_is : table' ≡ t ++ drop (length t) table
  pub plan-is : plan' ≡ p ++ drop (length p) plan
  pub bad-is : bad' ≡ bad
  pub report-is : report' ≡ count ∷ 0 ∷ 1 ∷ length t ∷ length p ∷ 0 ∷ []
  pub again : (room after : List ℕ) (a : Answer) → WritesFile (take (length t) table') (take (length p) plan') room after a
      → length file ≤ length room → (a ≡ answered (length file) (length file / 512)) × (after ≡ file ++ drop (length file) room)

abbrev pub Unchanged : (file table plan bad table' plan' bad' report' : List ℕ) → Answer → Type 0
Unchanged file table plan bad table' plan' bad' report' answer =
    (t p : List ℕ) (x : FileHolds file t p) → length t ≤ length table → length p ≤ length plan
    → Same file t p (length x.rows) table plan bad table' plan' bad' report' answer

-- "Kept rows are the original's, cell for cell, where sound blocks are as written": of a file that was written for a table and a plan, whatever
-- became of it since
abbrev pub AsWritten : (file original : List ℕ) → Type 0
AsWritten file original = (k : ℕ) → k < whole original → SoundBlock file k → block_at file k ≡ block_at original k

abbrev pub Originals : (file table' : List ℕ) → Answer → Type 0
Originals file table' answer =
    (t p : List ℕ) (width : ℕ) (rows : List (List ℕ)) (tree : Plan width rows) → AreWords t → AreWords p → IsTable t width rows → write tree ≡ p
    → AsWritten file (file_of t p) → (m n : ℕ) → answer ≡ answered m n
    → (m ≤ length rows) × (take (2 + length (flatten (take m rows))) table' ≡ width ∷ m ∷ flatten (take m rows))
