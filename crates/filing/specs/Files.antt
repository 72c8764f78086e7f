-- A table and a plan as a file (02, W-211), and how any bytes are read as one.
use Rattle.std.specs.Prelude.{ℕ, ◌+◌, ◌-◌, ◌*◌, ◌/◌, ◌%◌, ◌≤◌, ◌<◌, ◌≡◌, Bool, true, not, ◌&&◌, ◌||◌, List, [], ◌∷◌, ◌++◌, eqb, ltb, length, get_or, take, drop, replicate}
use Rattle.octets.specs.Octets.{bytes_of}
use Rattle.refusal.specs.Refusal.{Refused, refused, Answer, answered, turned}
use Rattle.refusal.specs.declared.Reason.TheVariants as reason
use Rattle.refusal.specs.declared.Input.TheVariants as input
use Rattle.refusal.specs.Read.{Read, read, refuse, when, and_then}
use Rattle.plan.specs.Check.{plan_of}
use Rattle.blocks.specs.Blocks.{blocks_from, whole, good, good_cells}

-- "The cells are table size, plan size, table, plan, zeros to the end of the block, and no more blocks than needed": the cells before the
-- zeros, how many blocks so many cells need, and the cells with the zeros
abbrev pub stream : (table plan : List ℕ) → List ℕ
stream table plan = length table ∷ length plan ∷ (table ++ plan)

abbrev pub needed : ℕ → ℕ
needed cells = (cells + 124) / 125

abbrev pub filled_up : List ℕ → List ℕ
filled_up cells = cells ++ replicate (125 * needed (length cells) - length cells) 0

-- the words of the blocks, which are numbered from 0, and their bytes
abbrev pub words_for : List ℕ → List ℕ
words_for cells = blocks_from 0 (needed (length cells)) (filled_up cells)

abbrev pub file_of : (table plan : List ℕ) → List ℕ
file_of table plan = bytes_of (words_for (stream table plan))

-- Reading: whether all cells are 0
unfoldable pub zeros : List ℕ → Bool
zeros [] = true
zeros (c ∷ cells) = eqb c 0 && zeros cells

-- what a file holds
pub record Card : Type 0 where
  pub table : List ℕ
  pub plan : List ℕ

abbrev pub card : (table plan : List ℕ) → Card
card t p = record { table = t; plan = p }

-- the two sizes, and what they cut out of the cells: the table, the plan, and what is after both
module _ (cells : List ℕ) where
  abbrev pub table_size : ℕ
  table_size = get_or cells 0 0

  abbrev pub plan_size : ℕ
  plan_size = get_or cells 1 0

  abbrev pub sizes : ℕ
  sizes = 2 + table_size + plan_size

  abbrev pub table_part : List ℕ
  table_part = take table_size (drop 2 cells)

  abbrev pub plan_part : List ℕ
  plan_part = take plan_size (drop (2 + table_size) cells)

-- "Refusals of reading, in order: BLOCKS (no block, or not whole blocks), DAMAGE at the first block with a wrong number or check, SIZES (the
-- sizes don't give this many blocks), PADDING (not zero), the table's, the plan's"; ROOM is said where a room is lent
unfoldable pub card_of : List ℕ → Read Card
card_of cells =
    when (not (zeros (drop (sizes cells) cells))) (refused reason.Padding input.File 0)
    (and_then (plan_of (table_part cells) (plan_part cells)) (λ (branches : ℕ).
    read (card (table_part cells) (plan_part cells))))

unfoldable pub file_read : List ℕ → Read Card
file_read file =
    when (eqb (length file) 0 || not (eqb (length file % 512) 0)) (refused reason.Blocks input.File 0)
    (when (ltb (good file 0) (whole file)) (refused reason.Damage input.File (good file 0))
    (when (not (eqb (needed (sizes (good_cells file 0))) (whole file))) (refused reason.Sizes input.File 0)
    (card_of (good_cells file 0))))

-- What writing answers for a table and a plan, and what the room then holds: "Writing refuses by table, plan, ROOM", its place being the
-- bytes needed; otherwise it answers the bytes and the blocks, and the file comes first
abbrev pub no_room : ℕ → Answer
no_room need = turned (refused reason.Room input.Lent need)

pub data FileWritten (table plan room room' : List ℕ) (answer : Answer) : Type 0 where
  not-accepted : (f : Refused) → plan_of table plan ≡ refuse f → answer ≡ turned f → room' ≡ room → FileWritten table plan room room' answer
  room-short : (branches : ℕ) → plan_of table plan ≡ read branches → length room < length (file_of table plan)
      → answer ≡ no_room (length (file_of table plan)) → room' ≡ room → FileWritten table plan room room' answer
  written : (branches : ℕ) → plan_of table plan ≡ read branches → length (file_of table plan) ≤ length room
      → answer ≡ answered (length (file_of table plan)) (needed (length (stream table plan)))
      → room' ≡ file_of table plan ++ drop (length (file_of table plan)) room → FileWritten table plan room room' answer

-- What reading answers for any bytes, and what the two rooms then hold: the refusals above, ROOM of the table's cells, ROOM of the plan's;
-- otherwise the two sizes, and the cells come first
pub data FileLoaded (file table plan table' plan' : List ℕ) (answer : Answer) : Type 0 where
  not-read : (f : Refused) → file_read file ≡ refuse f → answer ≡ turned f → table' ≡ table → plan' ≡ plan
      → FileLoaded file table plan table' plan' answer
  table-short : (c : Card) → file_read file ≡ read c → length table < length c.table → answer ≡ no_room (length c.table)
      → table' ≡ table → plan' ≡ plan → FileLoaded file table plan table' plan' answer
  plan-short : (c : Card) → file_read file ≡ read c → length c.table ≤ length table → length plan < length c.plan
      → answer ≡ no_room (length c.plan) → table' ≡ table → plan' ≡ plan → FileLoaded file table plan table' plan' answer
  loaded : (c : Card) → file_read file ≡ read c → length c.table ≤ length table → length c.plan ≤ length plan
      → answer ≡ answered (length c.table) (length c.plan) → table' ≡ c.table ++ drop (length c.table) table
      → plan' ≡ c.plan ++ drop (length c.plan) plan → FileLoaded file table plan table' plan' answer
