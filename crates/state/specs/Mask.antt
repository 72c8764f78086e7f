-- A row's state as the code keeps it: a mask of its open cells. Bit j is set while cell j of the row is not yet looked at; a row has at
-- most 32 cells. That a mask with a bit taken out is the row with the place closed is `kept-without` of proofs/MaskLaws.
use Rattle.std.specs.Prelude.{ℕ, zero, suc, ◌+◌, ◌-◌, ◌/◌, ◌%◌, ◌^◌, ◌≤◌, ◌<◌, min, Bool, cond, List, [], ◌∷◌, eqb, ltb, length, get_or, ◌≡◌}
use Rattle.cell.specs.Cell.{arity}
use Rattle.term.specs.Terms.{root, close}
use Rattle.state.specs.declared.mask.Closed.{Closed}
use Rattle.limits.specs.Limits.{most_rows}

-- the lowest bit is set
abbrev pub odd : ℕ → Bool
odd m = eqb (m % 2) 1

-- the cells whose bits are set, the lowest bit being the first cell's: what a row is in a state (01, "Plans")
unfoldable pub kept : ℕ → List ℕ → List ℕ
kept m [] = []
kept m (c ∷ xs) = cond (odd m) (c ∷ kept (m / 2) xs) (kept (m / 2) xs)

-- the bit of the cell at open place i, the first cell's bit being j; 32 where there is no such place
unfoldable pub bit_from : ℕ → ℕ → ℕ → List ℕ → ℕ
bit_from j i m [] = 32
bit_from j zero m (c ∷ xs) = cond (odd m) j (bit_from (j + 1) zero (m / 2) xs)
bit_from j (suc i) m (c ∷ xs) = cond (odd m) (bit_from (j + 1) (arity c + i) (m / 2) xs) (bit_from (j + 1) (suc i) (m / 2) xs)

abbrev pub bit_at : ℕ → ℕ → List ℕ → ℕ
bit_at i m xs = bit_from 0 i m xs

-- a mask without a bit, and as it is where there is none
abbrev pub without : ℕ → ℕ → ℕ
without m b = cond (ltb b 32) (m - 2 ^ b) m

-- the mask of a row of n cells, all of them open
abbrev pub full : ℕ → ℕ
full n = cond (ltb n 32) (2 ^ n) (2 ^ 32) - 1

-- 01, "Rows carry no lengths; a row ends when its last argument does": row r of n ends where the next one starts, and the last where the
-- table's cells end
abbrev pub end_at : List ℕ → ℕ → ℕ → ℕ → ℕ
end_at ss n len r = cond (ltb (r + 1) n) (get_or ss (r + 1) 0) len

-- the masks of a table's rows, all of their cells open: so many rows, at most 64, that start where ss says
pub record OpenRows (ss : List ℕ) (n len : ℕ) (ms : List ℕ) : Type 0 where
  pub size : length ms ≡ 64
  pub rows : (r : ℕ) → r < min n most_rows → get_or ms r 0 ≡ full (end_at ss (min n most_rows) len r - get_or ss r 0)
  pub others : (r : ℕ) → min n most_rows ≤ r → get_or ms r 0 ≡ 0

-- open place i of a row is closed: its cell is the definition's, its bit is out of the mask, and so the list that the mask stands for is
-- the definition's
pub record ClosedAt (i m : ℕ) (xs : List ℕ) (r : Closed) : Type 0 where
  pub cell : r.cell ≡ root i (kept m xs)
  pub mask : r.mask ≡ without m (bit_at i m xs)
  pub list : kept r.mask xs ≡ close i (kept m xs)
