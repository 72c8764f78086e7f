-- W-211, "One file per terminal", sentence by sentence, as statements of what the two entries are given and what they answer. proofs/Files
-- proves each of the entries' promises, and src/lib.rt ties it to the entries.
--
-- Of crate blocks, specs: `checks` are the two check words (Sums), `block_of` a block's words, `block_at file k` those of a file's block k, `whole`
-- the number of a file's whole blocks, `good_cells file 0` the cells of its blocks, up to the first that is not sound (Blocks). Of crate filing,
-- specs/Files: `stream table plan` the cells before the zeros, `filled_up` those with the zeros, `needed` the blocks for so many cells,
-- `file_of table plan` the file's bytes; `sizes`, `table_part`, `plan_part` what a file's cells say they hold.
use Rattle.std.specs.Prelude.{ℕ, ◌+◌, ◌*◌, ◌/◌, ◌%◌, ◌^◌, ◌≤◌, ◌<◌, ◌≡◌, ◌↔◌, ◌≢◌, ◌⊎◌, List, ◌∷◌, ◌++◌, length, get_or, take, drop}
use Rattle.refusal.specs.Refusal.{Refused, refused, Answer, answered, turned}
use Rattle.refusal.specs.declared.Reason.TheVariants as reason
use Rattle.refusal.specs.declared.Input.TheVariants as input
use Rattle.refusal.specs.Read.{refuse}
use Rattle.table.specs.Table.{table_of, IsTable}
use Rattle.plan.specs.Plans.{Plan, write}
use Rattle.plan.specs.Check.{plan_of}
use Rattle.blocks.specs.Sums.{checks, OneWord, Exchanged}
use Rattle.blocks.specs.Blocks.{whole, good_cells, block_at, block_of}
use Rattle.filing.specs.Files.{stream, needed, filled_up, file_of, sizes, table_part, plan_part}

-- "Writing refuses by table, plan, ROOM": what turns it away, and the refusal that it gets. ROOM's place is the bytes needed
pub data WriteTurned (cells plan room : List ℕ) (refusal : Refused) : Type 0 where
  bad-table : table_of cells ≡ refuse refusal → WriteTurned cells plan room refusal
  bad-plan : {width : ℕ} {rows : List (List ℕ)} → IsTable cells width rows → plan_of cells plan ≡ refuse refusal
      → WriteTurned cells plan room refusal
  bad-room : {width : ℕ} {rows : List (List ℕ)} → IsTable cells width rows → (tree : Plan width rows) → write tree ≡ plan
      → length room < length (file_of cells plan) → refusal ≡ refused reason.Room input.Lent (length (file_of cells plan))
      → WriteTurned cells plan room refusal

-- with nothing written (demand 1)
pub record WriteRefused (cells plan room after : List ℕ) (answer : Answer) : Type 0 where
  pub refuses : (f : Refused) → (answer ≡ turned f) ↔ WriteTurned cells plan room f
  pub untouched : (f : Refused) → answer ≡ turned f → after ≡ room

-- "Write": otherwise its bytes and its blocks are answered, and the file is the room's first bytes, the rest being as it was. "The file is
-- blocks of 512 bytes", at most 66
pub record Wrote (cells plan room after : List ℕ) (answer : Answer) : Type 0 where
  pub full : (answer ≡ turned (refused reason.Room input.Lent (length (file_of cells plan)))) ↔ (length room < length (file_of cells plan))
  pub told : (answer ≡ answered (length (file_of cells plan)) (needed (length (stream cells plan)))) ↔ (length (file_of cells plan) ≤ length room)
  pub wrote : length (file_of cells plan) ≤ length room → after ≡ file_of cells plan ++ drop (length (file_of cells plan)) room
  pub bytes : length (file_of cells plan) ≡ 512 * needed (length (stream cells plan))
  pub few : needed (length (stream cells plan)) ≤ 66

abbrev pub WritesFile : (cells plan room after : List ℕ) → Answer → Type 0
WritesFile cells plan room after answer =
    (width : ℕ) (rows : List (List ℕ)) (tree : Plan width rows) → IsTable cells width rows → write tree ≡ plan → Wrote cells plan room after answer

-- "Refusals of reading, in order: BLOCKS (no block, or not whole blocks)": what passes
pub record Whole (file : List ℕ) : Type 0 where
  pub some : 1 ≤ length file
  pub blocks : length file % 512 ≡ 0

-- "DAMAGE at the first block with a wrong number or check": a block that has neither, the first that has, and a file of which none has
pub record SoundAt (file : List ℕ) (k : ℕ) : Type 0 where
  pub number : get_or (block_at file k) 0 0 ≡ k
  pub checked : drop 126 (block_at file k) ≡ checks (take 126 (block_at file k))

pub record FirstBad (file : List ℕ) (k : ℕ) : Type 0 where
  pub blocks : Whole file
  pub within : k < whole file
  pub before : (j : ℕ) → j < k → SoundAt file j
  pub bad : SoundAt file k → ⊥

pub record AllSound (file : List ℕ) : Type 0 where
  pub blocks : Whole file
  pub sound : (k : ℕ) → k < whole file → SoundAt file k

-- the cells of such a file: 125 of each block, after its number, one block after another
pub record BlockCells (file : List ℕ) : Type 0 where
  pub count : length (good_cells file 0) ≡ 125 * whole file
  pub cell : (k i : ℕ) → k < whole file → i < 125 → get_or (good_cells file 0) (125 * k + i) 0 ≡ get_or (block_at file k) (1 + i) 0

-- "SIZES (the sizes don't give this many blocks)"
pub record Sized (file : List ℕ) : Type 0 where
  pub all : AllSound file
  pub count : needed (sizes (good_cells file 0)) ≡ whole file

-- "PADDING (not zero)": the cells after table and plan
abbrev pub padding : List ℕ → List ℕ
padding file = drop (sizes (good_cells file 0)) (good_cells file 0)

pub record Padded (file : List ℕ) : Type 0 where
  pub sized : Sized file
  pub zero : (k : ℕ) → get_or (padding file) k 0 ≡ 0

-- "the table's, the plan's": what they are read from
abbrev pub table_on : List ℕ → List ℕ
table_on file = table_part (good_cells file 0)

abbrev pub plan_on : List ℕ → List ℕ
plan_on file = plan_part (good_cells file 0)

-- a file that passes all of them, with the table and the plan that it holds
pub record FileHolds (file table plan : List ℕ) : Type 0 where
  pub padded : Padded file
  pub table_is : table_on file ≡ table
  pub plan-is : plan_on file ≡ plan
  pub width : ℕ
  pub rows : List (List ℕ)
  pub accepted : IsTable table width rows
  pub tree : Plan width rows
  pub written : write tree ≡ plan

-- "The cells are table size, plan size, table, plan, zeros to the end of the block, and no more blocks than needed": of a written file
pub record Shape (table plan : List ℕ) : Type 0 where
  pub holds : FileHolds (file_of table plan) table plan
  pub cells : good_cells (file_of table plan) 0 ≡ filled_up (stream table plan)
  pub blocks : whole (file_of table plan) ≡ needed (2 + length table + length plan)

-- what turns a file away, and the refusal that it gets; "ROOM" last, of the table's room and then of the plan's, its place the cells needed there.
-- An answer has 48 bits for a place, so of a bad block's it has what fits
pub data ReadTurned (file table plan : List ℕ) (refusal : Refused) : Type 0 where
  no_blocks : (length file ≡ 0) ⊎ (length file % 512 ≢ 0) → refusal ≡ refused reason.Blocks input.File 0 → ReadTurned file table plan refusal
  damage : (k : ℕ) → FirstBad file k → refusal ≡ refused reason.Damage input.File (k % 2 ^ 48) → ReadTurned file table plan refusal
  bad-sizes : AllSound file → needed (sizes (good_cells file 0)) ≢ whole file → refusal ≡ refused reason.Sizes input.File 0
      → ReadTurned file table plan refusal
  bad-padding : (k : ℕ) → Sized file → get_or (padding file) k 0 ≢ 0 → refusal ≡ refused reason.Padding input.File 0
      → ReadTurned file table plan refusal
  bad-table : Padded file → table_of (table_on file) ≡ refuse refusal → ReadTurned file table plan refusal
  bad-plan : {width : ℕ} {rows : List (List ℕ)} → Padded file → IsTable (table_on file) width rows → plan_of (table_on file) (plan_on file) ≡ refuse refusal
      → ReadTurned file table plan refusal
  table-short : (t p : List ℕ) → FileHolds file t p → length table < length t → refusal ≡ refused reason.Room input.Lent (length t)
      → ReadTurned file table plan refusal
  plan-short : (t p : List ℕ) → FileHolds file t p → length t ≤ length table → length plan < length p
      → refusal ≡ refused reason.Room input.Lent (length p) → ReadTurned file table plan refusal

-- with nothing written to either room (demand 1). Of a file below 2^57 bytes, and so of any that a machine can lend, a bad block's place is whole
pub record ReadRefused (file table plan table' plan' : List ℕ) (answer : Answer) : Type 0 where
  pub refuses : (f : Refused) → (answer ≡ turned f) ↔ ReadTurned file table plan f
  pub untouched : (f : Refused) → answer ≡ turned f → (table' ≡ table) × (plan' ≡ plan)
  pub first-bad : (k : ℕ) → FirstBad file k → length file < 2 ^ 57 → answer ≡ turned (refused reason.Damage input.File k)

-- "and read": otherwise the table's and the plan's cells are answered, and they are the first of their rooms, the rest being as it was
pub record ReadsFile (file table plan table' plan' : List ℕ) (answer : Answer) : Type 0 where
  pub loads : (t p : List ℕ) → FileHolds file t p → length t ≤ length table → length p ≤ length plan
      → (answer ≡ answered (length t) (length p)) × (table' ≡ t ++ drop (length t) table) × (plan' ≡ p ++ drop (length p) plan)
  pub only : (m n : ℕ) → answer ≡ answered m n → FileHolds file (take m table') (take n plan')

-- "each undoing the other": what was written is read back, whatever the rooms hold,
abbrev pub ThereAndBack : (cells plan after : List ℕ) → Answer → Type 0
ThereAndBack cells plan after answer =
    (bytes blocks : ℕ) → answer ≡ answered bytes blocks → (t p t' p' : List ℕ) (a : Answer) → ReadsFile (take bytes after) t p t' p' a
    → length cells ≤ length t → length plan ≤ length p
    → (a ≡ answered (length cells) (length plan)) × (t' ≡ cells ++ drop (length cells) t) × (p' ≡ plan ++ drop (length plan) p)

-- and a file that was read is what writing writes for what was read, byte for byte
abbrev pub BackAgain : (file table' plan' : List ℕ) → Answer → Type 0
BackAgain file table' plan' answer =
    (m n : ℕ) → answer ≡ answered m n → (room after : List ℕ) (a : Answer) → WritesFile (take m table') (take n plan') room after a
    → length file ≤ length room → (a ≡ answered (length file) (length file / 512)) × (after ≡ file ++ drop (length file) room)

-- "Two blocks whose first 126 words differ in one word, or by exchange of two unequal neighbours, never have equal checks": of the sound blocks
-- of any files, and of the blocks that are written
pub record ChecksTell : Type 0 where
  pub read : (f g : List ℕ) (j k : ℕ) → SoundAt f j → SoundAt g k
      → OneWord (take 126 (block_at f j)) (take 126 (block_at g k)) ⊎ Exchanged (take 126 (block_at f j)) (take 126 (block_at g k))
      → drop 126 (block_at f j) ≢ drop 126 (block_at g k)
  pub written : (n m : ℕ) (cells others : List ℕ) → length cells ≡ 125 → length others ≡ 125
      → OneWord (n ∷ cells) (m ∷ others) ⊎ Exchanged (n ∷ cells) (m ∷ others) → drop 126 (block_of n cells) ≢ drop 126 (block_of m others)
