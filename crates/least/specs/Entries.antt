-- What is kept for every pair of rows (01, "The least plan": "a least count kept for every pair of first and last row").
-- The pair fixes a state only once the places that its rows agree on are closed, so an entry counts from there.
use Rattle.std.specs.Prelude.{◌≡◌, ℕ, suc, ◌+◌, ◌*◌, ◌≤◌, ◌<◌, Bool, ◌⊎◌, List, map, length, get_or}
use Rattle.std.proofs.Math.Seq.{slice}
use Rattle.cell.specs.Cell.{arity}
use Rattle.term.specs.Terms.{close}
use Rattle.plan.specs.Plans.{Measure}
use Rattle.plan.specs.Named.{spread, May}
use Rattle.least.specs.Least.{Agree, Stuck, Least, Chosen}
use Rattle.limits.specs.Limits.{most_rows}

-- the rows from the first to the last, both taken
abbrev pub between : ℕ → ℕ → List (List ℕ) → List (List ℕ)
between first last rows = slice first (suc last) rows

-- Agreed places that may be chosen are closed one by one, from a state with so many open places to another. What the closed cells weigh together is
-- `weighs` of proofs/Closing
pub data Closes : (named : List Bool) (opens : ℕ) (rows : List (List ℕ)) (named' : List Bool) (opens' : ℕ) (rows' : List (List ℕ)) → Type 0 where
  stop : {named : List Bool} {opens : ℕ} {rows : List (List ℕ)} → Closes named opens rows named opens rows
  step : {named named' : List Bool} {others opens' : ℕ} {rows rows' : List (List ℕ)} (place cell : ℕ) → place ≤ others → Agree place cell rows → May named place
      → Closes (spread place (arity cell) named) (arity cell + others) (map (close place) rows) named' opens' rows'
      → Closes named (suc others) rows named' opens' rows'

-- the entry for two rows of a table of this width: the least cost, and the chosen place as an index into the open places that are left.
-- Both are 0 where last is before first, past the last row, and at a leaf
pub data Entry (measure : Measure) (named : List Bool) (width : ℕ) (rows : List (List ℕ)) (first last : ℕ) : (count place : ℕ) → Type 0 where
  none : (last < first) ⊎ (length rows ≤ last) → Entry measure named width rows first last 0 0
  leaf : {named' : List Bool} {left : List (List ℕ)} → first ≤ last → last < length rows
      → Closes named width (between first last rows) named' 0 left → Entry measure named width rows first last 0 0
  inner : {named' : List Bool} {others : ℕ} {left : List (List ℕ)} {count place : ℕ} → first ≤ last → last < length rows
      → Closes named width (between first last rows) named' (suc others) left → Stuck named' (suc others) left → Least measure named' (suc others) left count
      → place ≤ others → Chosen measure named' others left place → Entry measure named width rows first last count place

-- Where they are kept: 12,288 numbers in three parts of 4,096, each with a number for every pair of first and last row, at 64 times the
-- first plus the last. What the pair's rows cost with nothing closed; the pair's entry, its least cost and its place
abbrev pub whole_in : List ℕ → ℕ → ℕ → ℕ
whole_in kept first last = get_or kept (most_rows * first + last) 0

abbrev pub cost_in : List ℕ → ℕ → ℕ → ℕ
cost_in kept first last = get_or kept (4096 + (most_rows * first + last)) 0

abbrev pub place_in : List ℕ → ℕ → ℕ → ℕ
place_in kept first last = get_or kept (8192 + (most_rows * first + last)) 0

-- what is kept for a pair of rows is right
pub record RightAt (measure : Measure) (named : List Bool) (width : ℕ) (rows : List (List ℕ)) (kept : List ℕ) (first last : ℕ) : Type 0 where
  pub whole : Least measure named width (between first last rows) (whole_in kept first last)
  pub entry : Entry measure named width rows first last (cost_in kept first last) (place_in kept first last)

-- at a pair an array is as it was
pub record SameAt (first last : ℕ) (old new : List ℕ) : Type 0 where
  pub whole : whole_in new first last ≡ whole_in old first last
  pub cost : cost_in new first last ≡ cost_in old first last
  pub place : place_in new first last ≡ place_in old first last
