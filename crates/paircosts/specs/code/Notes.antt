-- What the code notes while it works the entries out. For a fixed last row the rows before it are added one by one, in front, and what is
-- known of each place of the rows so far is noted at the cell that the first of them has there.
use Rattle.std.specs.Prelude.{ℕ, suc, ◌+◌, ◌-◌, ◌*◌, ◌/◌, ◌%◌, ◌≤◌, ◌<◌, min, ◌≡◌, true, cond, List, [], ◌∷◌, map, ltb, length, get_or, set, drop}
use Rattle.std.proofs.Math.Seq.{slice}
use Rattle.cell.specs.Cell.{arity, is_var}
use Rattle.term.specs.Terms.{Terms, front, back, root, close}
use Rattle.refusal.specs.Read.{read}
use Rattle.table.specs.Table.{count, Head}
use Rattle.table.specs.code.Looks.{cells_from}
use Rattle.plan.specs.Runs.{agree}
use Rattle.plan.specs.Plans.{Measure}
use Rattle.least.specs.Entries.{whole_in}
use Rattle.least.specs.Measures.{weight_at}
use Rattle.least.specs.code.Pairs.{limit}
use Rattle.paircosts.specs.declared.arrays.Note.{Note}
use Rattle.limits.specs.Limits.{kept_cells, most_rows, most_table_cells}

abbrev pub note : ℕ → ℕ → ℕ → Note
note n s t = record { runs = n; sum = s; to = t }

-- one row more, in front: at this place it has the cell c, and the row after it d. W is what a run costs, by its first and last row
abbrev pub note_next : (ℕ → ℕ → ℕ) → Note → ℕ → ℕ → ℕ → Note
note_next W s row c d = cond (agree c d) s (note (suc s.runs) (s.sum + W (suc row) s.to) row)

-- the note of a column of cells, the first of them in row j
unfoldable pub note_from : (ℕ → ℕ → ℕ) → ℕ → ℕ → List ℕ → Note
note_from W j c [] = note 1 0 j
note_from W j c (d ∷ cs) = note_next W (note_from W (suc j) d cs) j c d

abbrev pub note_of : (ℕ → ℕ → ℕ) → ℕ → List ℕ → Note
note_of W j [] = note 0 0 j
note_of W j (c ∷ cs) = note_from W j c cs

-- what is true of a note of the rows from the first to the last: there is a run, the first one ends at one of these rows, and before the
-- last where there are more; and the sum is small
pub record Fair (first last : ℕ) (noted : Note) : Type 0 where
  pub some : 1 ≤ noted.runs
  pub few : noted.runs + first ≤ suc last
  pub low : first ≤ noted.to
  pub high : noted.to ≤ last
  pub earlier : 1 < noted.runs → noted.to < last
  pub small : noted.sum ≤ 65535 * noted.runs

-- The notes as they are kept, one for each of 64 cells. Two neighbouring rows have no more cells than that, so that a cell's place modulo 64
-- tells it from all others that are looked at
abbrev pub note_in : List Note → ℕ → Note
note_in notes q = get_or notes (q % 64) (note 0 0 0)

abbrev pub put_note : List Note → ℕ → Note → List Note
put_note notes q s = set notes (q % 64) s

-- how long the array is
abbrev pub Long : List ℕ → Type 0
Long kept = length kept ≡ kept_cells

-- what is read of a pair: whatever stands there, no more than any pair of a table costs
abbrev pub read_in : List ℕ → ℕ → ℕ → ℕ
read_in kept first last = min (whole_in kept first last) limit

-- the numbers of a note of rows from the first on are small
pub record Small (first : ℕ) (noted : Note) : Type 0 where
  pub runs : noted.runs ≤ most_rows
  pub sum : noted.sum ≤ 4194240
  pub to : noted.to < most_rows
  pub row : first < most_rows

-- The notes at the cells of a row, from a cell on, are right: at each place they say what the column there says, of this row and those
-- after it, in order, all of them from that place on; so many terms are left. Where there is one run the place is closed, and its
-- arguments come next; where there are more the whole term is passed. The cells that are closed weigh `agreed`
pub data Noted (m : Measure) (costs : ℕ → ℕ → ℕ) (first : ℕ) (notes : ℕ → Note)
    : (at terms : ℕ) (row : List ℕ) (rest : List (List ℕ)) (agreed : ℕ) → Type 0 where
  done : {at : ℕ} {row : List ℕ} {rest : List (List ℕ)} → Noted m costs first notes at 0 row rest 0
  closed : {at terms agreed : ℕ} {row : List ℕ} {rest : List (List ℕ)} → notes at ≡ note_of costs first (map (root 0) (row ∷ rest))
      → (notes at).runs ≡ 1 → Noted m costs first notes (suc at) (arity (root 0 row) + terms) (close 0 row) (map (close 0) rest) agreed
      → Noted m costs first notes at (suc terms) row rest (m.weight (root 0 row) + agreed)
  opened : {at terms agreed : ℕ} {row : List ℕ} {rest : List (List ℕ)} → notes at ≡ note_of costs first (map (root 0) (row ∷ rest))
      → 1 < (notes at).runs → Noted m costs first notes (at + length (front 1 row)) terms (back 1 row) (map (back 1) rest) agreed
      → Noted m costs first notes at (suc terms) row rest agreed

-- the place after k terms from cell j on; where the cells run out before, the place after them
abbrev pub past_of : List ℕ → (k j : ℕ) → ℕ
past_of cells k j = j + length (front k (drop j cells))

-- of each cell there is a mark: 8 times where its term ends, and what it weighs
abbrev pub end_in : List ℕ → ℕ → ℕ
end_in marks q = get_or marks q 0 / 8

abbrev pub weight_in : List ℕ → ℕ → ℕ
weight_in marks q = get_or marks q 0 % 8

-- a mark has three bits for a weight, and a table 2,050 cells
abbrev pub most_agreed : ℕ
most_agreed = 14350

pub record MarkOf (m : Measure) (cells : List ℕ) (j mark : ℕ) : Type 0 where
  pub end : mark / 8 ≡ past_of cells 1 j
  pub weight : mark % 8 ≡ m.weight (get_or cells j 0)

-- the cells from j on are marked
pub record MarkedFrom (m : Measure) (cells marks : List ℕ) (j : ℕ) : Type 0 where
  pub size : length marks ≡ most_table_cells
  pub at : (i : ℕ) → j ≤ i → i < length cells → MarkOf m cells i (get_or marks i 0)

-- where their terms end
abbrev pub EndsFrom : (cells marks : List ℕ) → ℕ → Type 0
EndsFrom cells marks j = (i : ℕ) → j ≤ i → i < length cells → end_in marks i ≡ past_of cells 1 i

-- What is given where one row more is noted, in front, its cells from `new` up to `old`: the row after it is noted at its cells from
-- `old` on, with the rows after that up to the last one, and what a run costs is kept for each that begins at that row. No row has more
-- than 32 cells
pub record NextRow (cells marks kept : List ℕ) (notes : List Note) (row new old : ℕ) : Type 0 where
  pub m : Measure
  pub costs : ℕ → ℕ → ℕ
  pub count : ℕ
  pub last : ℕ
  pub width : ℕ
  pub stop : ℕ
  pub rest : List (List ℕ)
  pub shared : ℕ
  pub noted : Noted m costs (suc row) (note_in notes) old width (slice old stop cells) rest shared
  pub old-terms : Terms width (slice old stop cells)
  pub new-terms : Terms width (slice new old cells)
  pub order : (new ≤ old) × (old ≤ stop) × (stop ≤ length cells) × (length cells ≤ most_table_cells)
  pub short : (old ≤ new + 32) × (stop ≤ old + 32)
  pub rows : (suc row + length rest ≡ last) × (last < count) × (count ≤ most_rows)
  pub marked : MarkedFrom m cells marks 0
  pub known : (j : ℕ) → suc row ≤ j → j ≤ last → read_in kept (suc row) j ≡ costs (suc row) j
  pub small : (i k : ℕ) → i ≤ k → k < count → costs i k ≤ 65535
  pub room : length notes ≡ 64
  pub long : Long kept

-- with it the new row is noted, and its closed cells weigh `agreed`
pub record RowNoted {cells marks kept : List ℕ} {notes : List Note} {row new old : ℕ} (given : NextRow cells marks kept notes row new old)
    (after : List Note) (agreed : ℕ) : Type 0 where
  pub noted : Noted given.m given.costs row (note_in after) new given.width (slice new old cells)
      (slice old given.stop cells ∷ given.rest) agreed
  pub light : agreed ≤ most_agreed
  pub room : length after ≡ 64

-- what some cells weigh together
abbrev pub weight_of : Measure → List ℕ → ℕ
weight_of m [] = 0
weight_of m (c ∷ cells) = m.weight c + weight_of m cells

-- what they cost, met one after another, where the cells in `met` are met before them
abbrev pub weights_from : Measure → List ℕ → List ℕ → ℕ
weights_from m met [] = 0
weights_from m met (c ∷ cells) = weight_at m met c + weights_from m (c ∷ met) cells

-- what is given where a row is noted by itself, its cells from `at` up to a stop
pub record LastRow (cells marks : List ℕ) (notes : List Note) (row at stop : ℕ) : Type 0 where
  pub m : Measure
  pub width : ℕ
  pub head : Head width (slice at stop cells)
  pub marked : MarkedFrom m cells marks 0
  pub part : (at ≤ stop) × (stop ≤ length cells) × (length cells ≤ most_table_cells)
  pub number : row < most_rows
  pub room : length notes ≡ 64

-- the variables among some cells are those below a number
pub record VariablesBelow (cells : List ℕ) (met : ℕ) : Type 0 where
  pub below : (v : ℕ) → is_var v ≡ true → ltb 0 (count v cells) ≡ ltb v met

-- every cell of it is closed; so it is noted up to cell q, and with the cells from there on those so far cost what all of them do. So many
-- variables are met before q, and the cells from there on number theirs further
pub record Alone {cells marks : List ℕ} {notes : List Note} {row at stop : ℕ} (given : LastRow cells marks notes row at stop) (q : ℕ) (after : List Note)
    (agreed met : ℕ) : Type 0 where
  pub each : (j : ℕ) → at ≤ j → j < q → note_in after j ≡ note 1 0 row
  pub before : List ℕ
  pub numbered : VariablesBelow before met
  pub fresh : (v : ℕ) × (cells_from true (slice q stop cells) met q ≡ read v)
  pub sum : agreed + weights_from given.m before (slice q stop cells) ≡ weights_from given.m [] (slice at stop cells)
  pub order : (at ≤ q) × (q ≤ stop)
  pub small : met ≤ q
  pub light : agreed ≤ 7 * q
  pub room : length after ≡ 64
