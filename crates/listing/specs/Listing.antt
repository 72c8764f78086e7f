-- The listing of a table (01, "On both sides", from "The listing program" on), as ASCII bytes.
use Rattle.std.specs.Prelude.{ℕ, suc, ◌+◌, ◌-◌, ◌%◌, ◌≡◌, Bool, true, false, not, ◌||◌, List, [], ◌∷◌, ◌++◌, eqb, ltb, length}
use Rattle.refusal.specs.Refusal.{Refused, reason_number}
use Rattle.refusal.specs.declared.Reason.TheVariants.{Length}
use Rattle.refusal.specs.Read.{read, refuse}
use Rattle.octets.specs.Octets.{decimal, field, cells_of}
use Rattle.printing.specs.Printing.{space, dash, feed, symbol_text, refusal}
use Rattle.table.specs.Table.{Table, table_of}
use Rattle.plan.specs.Runs.{Run}
use Rattle.plan.specs.Plans.{Plan, leaf, node, Branches, end, next, plain, cost}
use Rattle.least.specs.Least.{Built}

-- 01, "one line per branch ..: depth from 0, open place's index, symbol, first and last row", in the form of 01's example: `0 0 n1/0 0-1`
unfoldable pub line : (depth index cell first last : ℕ) → List ℕ
line depth index cell first last =
    field depth space ++ (field index space ++ (symbol_text cell ++ (space ∷ (field first dash ++ field last feed))))

-- 01, "in plan order": a branch, then all lines below it, one deeper, then the next branch. `first` is the number of the state's first row
unfoldable mutual
  pub lines_in : {k : ℕ} {rows : List (List ℕ)} → Plan k rows → (depth first : ℕ) → List ℕ
  lines_in leaf depth first = []
  lines_in (node i h bs) depth first = lines_of bs depth i first

  pub lines_of : {k : ℕ} {gs : List Run} → Branches k gs → (depth index first : ℕ) → List ℕ
  lines_of end depth index first = []
  lines_of (next {g = g} p bs) depth index first =
      line depth index g.cell first (first + length g.rows - 1)
      ++ (lines_in p (suc depth) first ++ lines_of bs depth index (first + length g.rows))

-- `rows `, ` width `, ` edges `
abbrev pub rows_word : List ℕ
rows_word = 114 ∷ 111 ∷ 119 ∷ 115 ∷ 32 ∷ []

abbrev pub width_word : List ℕ
width_word = 32 ∷ 119 ∷ 105 ∷ 100 ∷ 116 ∷ 104 ∷ 32 ∷ []

abbrev pub edges_word : List ℕ
edges_word = 32 ∷ 101 ∷ 100 ∷ 103 ∷ 101 ∷ 115 ∷ 32 ∷ []

-- 01, "It prints rows, width and cost": `rows 2 width 2 edges 3`
unfoldable pub header : (rows width cost : ℕ) → List ℕ
header rows width cost =
    rows_word ++ (decimal rows ++ (width_word ++ (decimal width ++ (edges_word ++ field cost feed))))

-- "It prints rows, width and cost, then one line per branch": the first state's branches are at depth 0, and its first row is row 0
abbrev pub listing_of : (T : Table) → Plan T.width T.rows → List ℕ
listing_of T tree = header (length T.rows) T.width (cost plain tree) ++ lines_in tree 0 0

-- the listing of a table's cells: 01's line for a refusal; otherwise the header and the lines of the builder's plan, of which there is one
pub data ListsTable (t : List ℕ) : List ℕ → Type 0 where
  refused : (f : Refused) → table_of t ≡ refuse f → ListsTable t (refusal f.number f.place)
  listed : (T : Table) (tree : Plan T.width T.rows) → table_of t ≡ read T → Built plain [] tree
      → ListsTable t (listing_of T tree)

-- 01, "bytes not a multiple of four, or over 8,200"
abbrev pub unread : List ℕ → Bool
unread bytes = ltb 8200 (length bytes) || not (eqb (length bytes % 4) 0)

-- the listing of any bytes at all: those "print `refused 1 at 0`", and all others, read "as little-endian cells", are a table's
-- cells. No bytes are a table of no cells
pub data Lists (bytes : List ℕ) : List ℕ → Type 0 where
  no_cells : unread bytes ≡ true → Lists bytes (refusal (reason_number Length) 0)
  cells : {text : List ℕ} → unread bytes ≡ false → ListsTable (cells_of bytes) text → Lists bytes text
