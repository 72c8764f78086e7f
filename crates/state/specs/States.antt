-- How the code holds a state: its rows by the masks of their open cells, their cells at the chosen place as a column.
use Rattle.std.specs.Prelude.{ℕ, zero, suc, ◌+◌, ◌-◌, ◌≤◌, ◌<◌, ◌≡◌, List, [], ◌∷◌, map, length, get_or, take, drop}
use Rattle.std.proofs.lemmas.List.Edits.{sets}
use Rattle.term.specs.Terms.{root, close}
use Rattle.plan.specs.Runs.{Run}
use Rattle.state.specs.Mask.{kept, bit_at, without}
use Rattle.state.specs.Column.{runs_on}

-- row r: the open cells of the row that starts where ss says, by its mask in ms
abbrev pub row_at : (t ss ms : List ℕ) → ℕ → List ℕ
row_at t ss ms r = kept (get_or ms r 0) (drop (get_or ss r 0) t)

-- n rows from row r on
unfoldable pub rows_at : (t ss ms : List ℕ) → ℕ → ℕ → List (List ℕ)
rows_at t ss ms zero r = []
rows_at t ss ms (suc n) r = row_at t ss ms r ∷ rows_at t ss ms n (r + 1)

-- the rows from first to before end, the cells they have in a column, and their runs
abbrev pub rows_in : (t ss ms : List ℕ) → ℕ → ℕ → List (List ℕ)
rows_in t ss ms first end = rows_at t ss ms (end - first) first

abbrev pub column_in : List ℕ → ℕ → ℕ → List ℕ
column_in hs first end = take (end - first) (drop first hs)

abbrev pub runs_in : (t ss ms hs : List ℕ) → ℕ → ℕ → List Run
runs_in t ss ms hs first end = runs_on (column_in hs first end) (rows_in t ss ms first end)

-- the mask of row r once its open place i is closed; of n rows from row r on; and of the rows from first to before end
abbrev pub mask_at : (t ss ms : List ℕ) → ℕ → ℕ → ℕ
mask_at t ss ms i r = without (get_or ms r 0) (bit_at i (get_or ms r 0) (drop (get_or ss r 0) t))

unfoldable pub masks_at : (t ss ms : List ℕ) → ℕ → ℕ → ℕ → List ℕ
masks_at t ss ms i zero r = []
masks_at t ss ms i (suc n) r = mask_at t ss ms i r ∷ masks_at t ss ms i n (r + 1)

abbrev pub masks_in : (t ss ms : List ℕ) → ℕ → ℕ → ℕ → List ℕ
masks_in t ss ms i first end = masks_at t ss ms i (end - first) first

-- place i of the rows from first to before end is closed: the cell that each has there is in the column hs, and its bit out of its mask in
-- ms; and so the list that the mask stands for is the definition's. All else in both lists is as it was
pub record ClosedRows (t ss ms hs ms' hs' : List ℕ) (i first end : ℕ) : Type 0 where
  pub column : hs' ≡ sets hs first (map (root i) (rows_in t ss ms first end))
  pub masks : ms' ≡ sets ms first (masks_in t ss ms i first end)
  pub lists : (r : ℕ) → first ≤ r → r < end → kept (mask_at t ss ms i r) (drop (get_or ss r 0) t) ≡ close i (row_at t ss ms r)

-- a list that has become another of its length, from a place on the same
pub record Same (from : ℕ) (xs xs' : List ℕ) : Type 0 where
  pub size : length xs' ≡ length xs
  pub after : drop from xs' ≡ drop from xs
