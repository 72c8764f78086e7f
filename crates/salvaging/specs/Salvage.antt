-- What can be had of any bytes (02, W-212): "a tool, with block 0 sound, keeps the longest run of rows from the top that the table's checks
-- accept and that end within the table size and before the first bad or missing block; a part of a block is a bad one".
use Rattle.std.specs.Prelude.{ℕ, zero, suc, ◌+◌, ◌-◌, ◌*◌, ◌/◌, ◌%◌, ◌≤◌, ◌<◌, ◌≡◌, Bool, true, false, cond, ◌&&◌, ◌||◌, eqb, leb, ltb, length, get_or, take, drop}
use mathlib.Core.List.{List, [], ◌∷◌, ◌++◌, flatten}
use Rattle.refusal.specs.Refusal.{Refused, refused}
use Rattle.refusal.specs.declared.Reason.TheVariants as reason
use Rattle.refusal.specs.declared.Input.TheVariants as input
use Rattle.refusal.specs.Read.{Read, read, refuse}
use Rattle.table.specs.Table.{Table, table_of}
use Rattle.plan.specs.Check.{plan_of}
use Rattle.plan.specs.Plans.{Plan, write}
use Rattle.least.specs.Least.{Built}
use Rattle.least.specs.Measures.{work}
use Rattle.octets.specs.Octets.{cells_of}
use Rattle.blocks.specs.Blocks.{sound, good, good_cells}
use Rattle.filing.specs.Files.{table_size, plan_size, table_part}
use Rattle.salvaging.specs.Kept.{kept_from}
use Rattle.limits.specs.Limits.{most_columns, most_rows}

-- "each bad block": the numbers of those that are not sound, of so many blocks from this number on. A part of a block is not sound
unfoldable pub bad_from : ℕ → ℕ → List ℕ → List ℕ
bad_from zero number words = []
bad_from (suc more) number words =
    let rest = bad_from more (suc number) (drop 128 words) in
    cond (sound number (take 128 words)) rest (number ∷ rest)

-- the blocks of a file, a part of one with them; the bad ones from a number on, and all of them
abbrev pub blocks_in : List ℕ → ℕ
blocks_in file = (length file + 511) / 512

abbrev pub bad_at : List ℕ → ℕ → List ℕ
bad_at file number = bad_from (blocks_in file - number) number (drop (128 * number) (cells_of file))

abbrev pub bad_in : List ℕ → List ℕ
bad_in file = bad_from (blocks_in file) 0 (cells_of file)

-- of a file: the cells before its first bad or missing block
module _ (file : List ℕ) where
  abbrev pub front : List ℕ
  front = good_cells file 0

  abbrev pub width : ℕ
  width = get_or front 2 0

  abbrev pub count : ℕ
  count = get_or front 3 0

  -- "HEAD when block 0 is missing or bad or its width or count is out of range"
  abbrev pub no_head : Bool
  no_head = eqb (good file 0) 0 || ((ltb width 1 || ltb most_columns width) || (ltb count 1 || ltb most_rows count))

  -- the rows that end within the table size and before that block, and the table that they are
  abbrev pub kept : List (List ℕ)
  kept = kept_from width count [] (drop 2 (table_part front))

  abbrev pub kept_cells : List ℕ
  kept_cells = width ∷ length kept ∷ flatten kept

  -- the plan's cells: in the sound blocks from its own first block on
  abbrev pub plan_start : ℕ
  plan_start = 2 + table_size front

  abbrev pub plan_run : List ℕ
  plan_run = good_cells file (plan_start / 125)

  abbrev pub plan_cells : List ℕ
  plan_cells = take (plan_size front) (drop (plan_start % 125) plan_run)

  -- "every plan cell is in a sound block"
  abbrev pub in_sound : Bool
  in_sound = leb (plan_start % 125 + plan_size front) (length plan_run)

abbrev pub accepted : Read ℕ → Bool
accepted (read n) = true
accepted (refuse f) = false

-- "If that is all rows, every plan cell is in a sound block and the check accepts, the plan is kept"
abbrev pub plan_kept : List ℕ → Bool
plan_kept file = eqb (length (kept file)) (count file) && (in_sound file && accepted (plan_of (kept_cells file) (plan_cells file)))

-- "otherwise a new least plan (figure 0) is built": whether the plan is kept, and its cells
pub data PlanHad (file : List ℕ) : Bool → List ℕ → Type 0 where
  old-plan : plan_kept file ≡ true → PlanHad file true (plan_cells file)
  new-plan : plan_kept file ≡ false → (T : Table) → table_of (kept_cells file) ≡ read T → (plan : Plan T.width T.rows)
      → Built (work 0) [] plan → PlanHad file false (write plan)

-- "It reports rows kept, rows dropped, whether the plan was kept, and each bad block": the numbers, with the cells and blocks that are written
pub record Findings : Type 0 where
  pub rows : ℕ
  pub dropped : ℕ
  pub keeps : Bool
  pub table : ℕ
  pub plan : ℕ
  pub bad : ℕ

pub data Outcome : Type 0 where
  saved : Findings → Outcome
  lost : Refused → Outcome

abbrev pub room_short : ℕ → Outcome
room_short need = lost (refused reason.Room input.Lent need)

abbrev pub facts : (file : List ℕ) (keeps : Bool) (cells : List ℕ) → Findings
facts file keeps cells = record {
  rows = length (kept file);
  dropped = count file - length (kept file);
  keeps = keeps;
  table = length (kept_cells file);
  plan = length cells;
  bad = length (bad_in file);
}

-- What is answered for any bytes and any rooms, and what the rooms then hold: HEAD, NONE, then ROOM of the table, of the plan, of the bad
-- blocks' numbers; a refusal writes nothing
pub data Salvaged (file table plan bad table' plan' bad' : List ℕ) (answer : Outcome) : Type 0 where
  head-lost : no_head file ≡ true → answer ≡ lost (refused reason.Head input.File 0) → table' ≡ table → plan' ≡ plan → bad' ≡ bad
      → Salvaged file table plan bad table' plan' bad' answer
  none_kept : no_head file ≡ false → kept file ≡ [] → answer ≡ lost (refused reason.None input.File 0) → table' ≡ table → plan' ≡ plan
      → bad' ≡ bad → Salvaged file table plan bad table' plan' bad' answer
  table-short : no_head file ≡ false → 1 ≤ length (kept file) → length table < length (kept_cells file) → answer ≡ room_short (length (kept_cells file))
      → table' ≡ table → plan' ≡ plan → bad' ≡ bad → Salvaged file table plan bad table' plan' bad' answer
  plan-short : no_head file ≡ false → 1 ≤ length (kept file) → length (kept_cells file) ≤ length table → (keeps : Bool) (cells : List ℕ)
      → PlanHad file keeps cells → length plan < length cells → answer ≡ room_short (length cells) → table' ≡ table → plan' ≡ plan → bad' ≡ bad
      → Salvaged file table plan bad table' plan' bad' answer
  bad-short : no_head file ≡ false → 1 ≤ length (kept file) → length (kept_cells file) ≤ length table → (keeps : Bool) (cells : List ℕ)
      → PlanHad file keeps cells → length cells ≤ length plan → length bad < length (bad_in file) → answer ≡ room_short (length (bad_in file))
      → table' ≡ table → plan' ≡ plan → bad' ≡ bad → Salvaged file table plan bad table' plan' bad' answer
  all-had : no_head file ≡ false → 1 ≤ length (kept file) → length (kept_cells file) ≤ length table → (keeps : Bool) (cells : List ℕ)
      → PlanHad file keeps cells → length cells ≤ length plan → length (bad_in file) ≤ length bad → answer ≡ saved (facts file keeps cells)
      → table' ≡ kept_cells file ++ drop (length (kept_cells file)) table → plan' ≡ cells ++ drop (length cells) plan
      → bad' ≡ bad_in file ++ drop (length (bad_in file)) bad → Salvaged file table plan bad table' plan' bad' answer
