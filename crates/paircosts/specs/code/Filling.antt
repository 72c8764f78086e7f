-- How the array is filled: the rows of a table as they stand in its cells, one pair, and all pairs that are worked out. Whatever stands at
-- the pairs that are kept, there are values that the array comes to hold (`held` of least/proofs/Again); where the kept ones are a
-- table's, so are all.
use Rattle.std.specs.Prelude.{ℕ, suc, ◌+◌, ◌*◌, ◌≤◌, ◌<◌, ◌≡◌, ◌⊎◌, Bool, cond, List, [], ltb, length, get_or, set}
use Rattle.std.proofs.Math.Seq.{slice}
use Rattle.table.specs.All.{All}
use Rattle.table.specs.Table.{Head}
use Rattle.plan.specs.Plans.{Measure}
use Rattle.plan.specs.code.Fits.{Fits}
use Rattle.state.specs.Flags.{flags_in}
use Rattle.least.specs.Entries.{cost_in, place_in, SameAt}
use Rattle.least.specs.code.Low.{Low}
use Rattle.least.specs.code.Pairs.{later_of, agreed_of, least_by, place_by, whole_by}
use Rattle.paircosts.specs.declared.arrays.Note.{Note}
use Rattle.paircosts.specs.declared.arrays.Asked.{Asked}
use Rattle.paircosts.specs.declared.arrays.Row.{Row}
use Rattle.paircosts.specs.declared.arrays.Shared.{Shared}
use Rattle.paircosts.specs.Fill.{Unasked}
use Rattle.paircosts.specs.code.Notes.{note_in, read_in, most_agreed, Long, Noted, MarkedFrom}
use Rattle.limits.specs.Limits.{most_row_cells, most_rows, most_table_cells}

-- a row's cells end where the next row's begin, and the last row's where the table's end
abbrev pub stop_of : List ℕ → List ℕ → ℕ → ℕ → ℕ
stop_of cells starts count r = cond (ltb (r + 1) count) (get_or starts (r + 1) 0) (length cells)

abbrev pub pair_row : ℕ → ℕ → ℕ → Row
pair_row number start end = record { number = number; start = start; end = end }

abbrev pub shared_of : ℕ → ℕ → Shared
shared_of last agreed = record { last = last; agreed = agreed }

-- the rows of a table of this width stand in its cells, each from its start on
pub record Laid (cells starts : List ℕ) (count width : ℕ) (rows : List (List ℕ)) : Type 0 where
  pub number : length rows ≡ count
  pub few : count ≤ most_rows
  pub size : length cells ≤ most_table_cells
  pub fits : All (Fits most_row_cells width) rows
  pub heads : All (Head width) rows
  pub order : (r : ℕ) → r < count → (get_or starts r 0 ≤ stop_of cells starts count r) × (stop_of cells starts count r ≤ length cells)
  pub row : (r : ℕ) → r < count → get_or rows r [] ≡ slice (get_or starts r 0) (stop_of cells starts count r) cells

-- what is given where the values of a pair are kept: the notes at its first row, whose cells are those from its start up to its end, and
-- what the closed cells cost where all that its rows agree on is closed, which is what they weigh and the later meetings of a single row.
-- What a run of rows costs is N
pub record PairAt (marks kept : List ℕ) (notes : List Note) (row : Row) (shared : Shared) (asked : Asked) : Type 0 where
  pub m : Measure
  pub low : Low m
  pub figure-is : asked.figure ≡ m.figure
  pub cells : List ℕ
  pub width : ℕ
  pub rows : List (List ℕ)
  pub few : length rows ≤ most_rows
  pub fits : All (Fits most_row_cells width) rows
  pub order : row.number ≤ shared.last
  pub inside : shared.last < length rows
  pub part : (row.start ≤ row.end) × (row.end ≤ length cells) × (length cells ≤ most_table_cells)
  pub row_is : get_or rows row.number [] ≡ slice row.start row.end cells
  pub marked : MarkedFrom m cells marks 0
  pub N : ℕ → ℕ → ℕ
  pub small : (j j' : ℕ) → j ≤ j' → j' < length rows → N j j' ≤ 65535
  pub weight : ℕ
  pub noted : Noted m N row.number (note_in notes) row.start width (get_or rows row.number [])
      (slice (suc row.number) (suc shared.last) rows) weight
  pub agreed-is : shared.agreed ≡ weight + later_of m most_row_cells [] width rows row.number shared.last
  pub light : shared.agreed ≤ most_agreed
  pub known : (j : ℕ) → row.number ≤ j → j < shared.last → read_in kept row.number j ≡ N row.number j
  pub long : Long kept

-- the three values of a pair, put at its places
abbrev pub put_pair : List ℕ → ℕ → ℕ → ℕ → ℕ → List ℕ
put_pair kept pair whole cost place = set (set (set kept pair whole) (4096 + pair) cost) (8192 + pair) place

-- a pair's values are kept, and nothing else is changed
pub record Keeps (m : Measure) (named : List Bool) (width : ℕ) (rows : List (List ℕ)) (N : ℕ → ℕ → ℕ) (first last : ℕ) (old new : List ℕ) : Type 0 where
  pub is : new
      ≡ put_pair old (most_rows * first + last) (agreed_of m most_row_cells named width rows first last + least_by m named width rows N first last)
      (least_by m named width rows N first last) (place_by m named width rows N first last)

-- where it begins before row `top`; otherwise nothing is changed
pub data KeepsBefore (m : Measure) (named : List Bool) (width : ℕ) (rows : List (List ℕ)) (N : ℕ → ℕ → ℕ) (top first last : ℕ)
    (old new : List ℕ) : Type 0 where
  keeps : first < top → Keeps m named width rows N first last old new → KeepsBefore m named width rows N top first last old new
  passes : top ≤ first → new ≡ old → KeepsBefore m named width rows N top first last old new

-- A task: the rows of a table, the array as it stands, and which pairs are worked out: those that begin before row `top` and end at row
-- `since` or later, by which columns are named. N are the values in the end: at those pairs what their runs' values give, at all others what stands there
pub record Task (cells marks starts : List ℕ) (asked : Asked) (old : List ℕ) : Type 0 where
  pub m : Measure
  pub low : Low m
  pub figure-is : asked.figure ≡ m.figure
  pub width : ℕ
  pub rows : List (List ℕ)
  pub laid : Laid cells starts asked.count width rows
  pub marked : MarkedFrom m cells marks 0
  pub N : ℕ → ℕ → ℕ
  pub again : (j j' : ℕ) → j ≤ j' → j' < length rows → j < asked.top → asked.since ≤ j' → N j j' ≡ whole_by m (flags_in width asked.named) width rows N j j'
  pub known : (j j' : ℕ) → j ≤ j' → j' < length rows → Unasked asked.top asked.since j j' → N j j' ≡ read_in old j j'
  pub small : (j j' : ℕ) → j ≤ j' → j' < length rows → N j j' ≤ 65535
  pub long : Long old

-- which pairs are worked out so far: those with an earlier last row, and those with this one that begin at the first row or later
pub record Worked (count : ℕ) (asked : Asked) (first last j j' : ℕ) : Type 0 where
  pub order : j ≤ j'
  pub inside : j' < count
  pub begins : j < asked.top
  pub ends : asked.since ≤ j'
  pub done : (j' < last) ⊎ ((j' ≡ last) × (first ≤ j))

module _ {cells marks starts : List ℕ} {asked : Asked} {old : List ℕ} (t : Task cells marks starts asked old) where
  -- what stands at a pair
  pub data Stands (first last : ℕ) (kept : List ℕ) (j j' : ℕ) : Type 0 where
    worked : Worked (length t.rows) asked first last j j' → read_in kept j j' ≡ t.N j j'
        → cost_in kept j j' ≡ least_by t.m (flags_in t.width asked.named) t.width t.rows t.N j j'
        → place_in kept j j' ≡ place_by t.m (flags_in t.width asked.named) t.width t.rows t.N j j' → Stands first last kept j j'
    left : (Worked (length t.rows) asked first last j j' → ⊥) → SameAt j j' old kept → Stands first last kept j j'

  pub record FilledTo (first last : ℕ) (kept : List ℕ) : Type 0 where
    pub each : (j j' : ℕ) → j < most_rows → j' < most_rows → Stands first last kept j j'
    pub long : Long kept

-- a row stands in its cells
pub record RowHere (cells starts : List ℕ) (count : ℕ) (row : Row) : Type 0 where
  pub inside : row.number < count
  pub start_is : row.start ≡ get_or starts row.number 0
  pub end_is : row.end ≡ stop_of cells starts count row.number

module _ {cells marks starts : List ℕ} {asked : Asked} {old : List ℕ} (t : Task cells marks starts asked old) where
  -- a row is noted with those after it up to the last one, what they agree on costs so much, and the pairs that end there are done from a
  -- first row on
  pub record NotedTo (first last : ℕ) (row : Row) (notes : List Note) (kept : List ℕ) (agreed : ℕ) : Type 0 where
    pub here : RowHere cells starts asked.count row
    pub order : row.number ≤ last
    pub inside : last < asked.count
    pub late : asked.since ≤ last
    pub weight : ℕ
    pub noted : Noted t.m t.N row.number (note_in notes) row.start t.width (get_or t.rows row.number [])
        (slice (suc row.number) (suc last) t.rows) weight
    pub agreed-is : agreed ≡ weight + later_of t.m most_row_cells [] t.width t.rows row.number last
    pub light : agreed ≤ most_agreed
    pub filled : FilledTo t first last kept
    pub room : length notes ≡ 64

-- what is given where the pairs that end at a row are worked out: those that end before it are done
pub record LastAt (cells marks starts kept : List ℕ) (asked : Asked) (row : Row) : Type 0 where
  pub old : List ℕ
  pub task : Task cells marks starts asked old
  pub here : RowHere cells starts asked.count row
  pub late : asked.since ≤ row.number
  pub filled : FilledTo task (suc row.number) row.number kept

-- all pairs that were asked for are done
pub record Finished {cells marks starts : List ℕ} {asked : Asked} {old : List ℕ} (t : Task cells marks starts asked old) (kept : List ℕ)
    : Type 0 where
  pub upto : ℕ
  pub far : asked.count ≤ upto
  pub filled : FilledTo t (suc upto) upto kept

-- the rows of a table
pub record Rows (cells starts : List ℕ) (count : ℕ) : Type 0 where
  pub width : ℕ
  pub rows : List (List ℕ)
  pub laid : Laid cells starts count width rows
