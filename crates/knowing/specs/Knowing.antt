-- Knowing more never adds rules (02, W-214), and what a list of goals adds up to. That a goal is an instance of another is `Instance` (crate
-- instance, W-203): one substitution makes its cells of the other's.
use Rattle.std.specs.Prelude.{Result, ℕ, suc, ◌+◌, ◌≤◌, ◌<◌, List, [], ◌∷◌, length, get_or, take, drop}
use Rattle.answer.specs.declared.RunCounts.{RunCounts}
use Rattle.refusal.specs.declared.Refusal.{Refusal}
use Rattle.term.specs.Unify.{Matches}
use Rattle.refusal.specs.Refusal.{Answer, answered, turned}
use Rattle.table.specs.Table.{count, IsGoal}
use Rattle.answer.specs.Run.{run_told, Ran}
use Rattle.answer.specs.Jobs.{bit}
use Rattle.answer.specs.declared.Job.{Job}

-- "its hit rows are among the other's, in the same order": some of them are left out
pub data Among : List ℕ → List ℕ → Type 0 where
  none : Among [] []
  kept : {x : ℕ} {xs ys : List ℕ} → Among xs ys → Among (x ∷ xs) (x ∷ ys)
  left_out : {y : ℕ} {xs ys : List ℕ} → Among xs ys → Among xs (y ∷ ys)

-- "each row's hit count .. over a W-202 list": in how many records the row's bit is set
unfoldable pub hit_count : (row : ℕ) → List Job → ℕ
hit_count row [] = 0
hit_count row (j ∷ jobs) = bit row j.hits + hit_count row jobs

-- "and the total tried": what the records say was tried, together
unfoldable pub total_tried : List Job → ℕ
total_tried [] = 0
total_tried (j ∷ jobs) = j.tried + total_tried jobs

-- what a run reports: its rows, the first bytes of its room, and the branches tried; no row and none where it is turned away
abbrev pub reported : Answer → (room : List ℕ) → List ℕ
reported (answered hits tried) room = take hits room
reported (turned f) room = []

abbrev pub tried_of : Answer → ℕ
tried_of (answered hits tried) = tried
tried_of (turned f) = 0

-- "the single runs": for each goal of the list what a run of that goal alone reports and tries, as `run_plan` promises it, in some room with
-- a byte for each of the table's rows; nothing where the goal's cells are not all lent
pub data Singles (t p lent : List ℕ) (rows : ℕ) : List Job → (found : List (List ℕ)) (tried : List ℕ) → Type 0 where
  done : Singles t p lent rows [] [] []
  past : {j : Job} {jobs : List Job} {found : List (List ℕ)} {tried : List ℕ} → length lent < j.start + j.count
      → Singles t p lent rows jobs found tried → Singles t p lent rows (j ∷ jobs) ([] ∷ found) (0 ∷ tried)
  single : {j : Job} {jobs : List Job} {found : List (List ℕ)} {tried : List ℕ} → j.start + j.count ≤ length lent
      → (room after : List ℕ) (r : Result RunCounts Refusal) → rows ≤ length room → Ran t p (take j.count (drop j.start lent)) room after r
      → Singles t p lent rows jobs found tried
      → Singles t p lent rows (j ∷ jobs) (reported (run_told r) after ∷ found) (tried_of (run_told r) ∷ tried)

-- "as exact sums": how often a row is reported, and the numbers together
unfoldable pub times_in : (row : ℕ) → List (List ℕ) → ℕ
times_in row [] = 0
times_in row (hits ∷ found) = count row hits + times_in row found

unfoldable pub sum : List ℕ → ℕ
sum [] = 0
sum (n ∷ ns) = n + sum ns

-- The same by meaning: of how many of a list's goals P holds,
pub data CountsJobs (P : Job → Type 0) : List Job → ℕ → Type 0 where
  zero_of : CountsJobs P [] 0
  one_of : {j : Job} {jobs : List Job} {n : ℕ} → P j → CountsJobs P jobs n → CountsJobs P (j ∷ jobs) (suc n)
  none_of : {j : Job} {jobs : List Job} {n : ℕ} → ¬ P j → CountsJobs P jobs n → CountsJobs P (j ∷ jobs) n

-- and a goal of the list whose cells are lent, that is a goal, and with which the row unifies
pub record Hit (lent : List ℕ) (width : ℕ) (rows : List (List ℕ)) (row : ℕ) (j : Job) : Type 0 where
  pub lies : j.start + j.count ≤ length lent
  pub goal : IsGoal width (take j.count (drop j.start lent))
  pub there : row < length rows
  pub fits : Matches (get_or rows row []) (take j.count (drop j.start lent))
