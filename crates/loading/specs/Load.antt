-- What the entry answers for a text and two rooms, and what it writes (02, W-201): "Refusals in order: BYTES; TEXT; OTHER; ROOM; then
-- 01's".
use Rattle.std.specs.Prelude.{ℕ, ◌≤◌, ◌<◌, ◌≡◌, List, ◌++◌, length, drop}
use Rattle.refusal.specs.Refusal.{Refused, refused, Answer, answered, turned}
use Rattle.refusal.specs.Read.{Read, read, refuse}
use Rattle.refusal.specs.declared.Reason.TheVariants as reason
use Rattle.refusal.specs.declared.Input.TheVariants as input
use Rattle.table.specs.Table.{Table, table_of}
use Rattle.grammar.specs.Grammar.{Fact}
use Rattle.grammar.specs.Meaning.{table_cells, name_list}
use Rattle.grammar.specs.Taken.{Taken}

-- what is loaded: the table's cells and the list of names
pub record Loaded : Type 0 where
  pub cells : List ℕ
  pub names : List ℕ

abbrev pub loaded : List ℕ → List Fact → Loaded
loaded text facts = record { cells = table_cells text facts; names = name_list text facts }

-- For a text, so many cells of room for the table and so many for the list: BYTES, TEXT and OTHER are those of Taken. ROOM concerns a lent
-- room, and its place is what is needed: of the cells first, then of the list. Then the cells are read as a table, with 01's refusals
pub data Loads (text : List ℕ) (cells names : ℕ) : Read Loaded → Type 0 where
  not_taken : {f : Refused} → Taken text (refuse f) → Loads text cells names (refuse f)
  no_cells : {facts : List Fact} → Taken text (read facts) → cells < length (table_cells text facts)
      → Loads text cells names (refuse (refused reason.Room input.Lent (length (table_cells text facts))))
  no_names : {facts : List Fact} → Taken text (read facts) → length (table_cells text facts) ≤ cells → names < length (name_list text facts)
      → Loads text cells names (refuse (refused reason.Room input.Lent (length (name_list text facts))))
  no_table : {facts : List Fact} {f : Refused} → Taken text (read facts) → length (table_cells text facts) ≤ cells
      → length (name_list text facts) ≤ names
      → table_of (table_cells text facts) ≡ refuse f → Loads text cells names (refuse f)
  loads : {facts : List Fact} {T : Table} → Taken text (read facts) → length (table_cells text facts) ≤ cells
      → length (name_list text facts) ≤ names
      → table_of (table_cells text facts) ≡ read T → Loads text cells names (read (loaded text facts))

-- the entry's two values: cells written and names listed
abbrev pub load_says : Read Loaded → Answer
load_says (read x) = answered (length x.cells) (length x.names)
load_says (refuse f) = turned f

-- 02, "On success the cells written come first and the rest of the room is untouched"
abbrev pub put_first : List ℕ → List ℕ → List ℕ
put_first xs room = xs ++ drop (length xs) room

-- in both rooms; and "a refusal writes nothing"
abbrev pub cells_after : Read Loaded → List ℕ → List ℕ
cells_after (read x) room = put_first x.cells room
cells_after (refuse f) room = room

abbrev pub names_after : Read Loaded → List ℕ → List ℕ
names_after (read x) room = put_first x.names room
names_after (refuse f) room = room

-- the promise of the entry, for every text and both rooms: the rooms as they are lent and as they are left, and the answer
pub record TextLoads (text cells names cells' names' : List ℕ) (answer : Answer) : Type 0 where
  pub says : Read Loaded
  pub rule : Loads text (length cells) (length names) says
  pub told : answer ≡ load_says says
  pub wrote : cells' ≡ cells_after says cells
  pub listed : names' ≡ names_after says names
