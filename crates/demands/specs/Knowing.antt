-- W-214, "Knowing more never adds rules", sentence by sentence, as statements of what the entries of a run and of a list of goals are given and
-- what they answer. proofs/Knowing proves them of the entries' promises, and src/lib.rt ties them to the entries.
--
-- Of crate knowing, specs/Knowing: `Among`; `hit_count` and `total_tried` of a list's records; `Singles`, the runs of its goals one by one, as
-- `run_plan` promises them, with what each reports and tries; `times_in` and `sum` of these; `CountsJobs`, `Hit`. `Instance` is W-203's.
use Rattle.std.specs.Prelude.{ℕ, ◌≤◌, ◌≡◌, List, length}
use Rattle.refusal.specs.Refusal.{Answer}
use Rattle.table.specs.Table.{IsTable, IsGoal}
use Rattle.plan.specs.Plans.{Plan, write}
use Rattle.answer.specs.declared.Job.{Job}
use Rattle.instance.specs.Instance.{Instance}
use Rattle.knowing.specs.Knowing.{Among, hit_count, total_tried, Singles, times_in, sum, CountsJobs, Hit}
use Rattle.demands.specs.Demands.{Answers}

-- "its hit rows are among the other's, in the same order, and it tries no more branches": two runs, each as demand 2 says, in a room of its own
pub record NoMore {width : ℕ} {rows : List (List ℕ)} (tree : Plan width rows) (wide narrow room after other after' : List ℕ)
    (answer answer' : Answer) : Type 0 where
  pub wider : Answers tree wide room after answer
  pub narrower : Answers tree narrow other after' answer'
  pub among : Among narrower.found wider.found
  pub fewer : narrower.tried ≤ wider.tried

-- "If one accepted goal is an instance of another, for the same table and any accepted plan": and "for all rows, repeated variables included",
-- since `IsTable` asks nothing of them that 01 does not ask of a head (W-209)
abbrev pub KnowingMore : (cells plan wide narrow room after other after' : List ℕ) (answer answer' : Answer) → Type 0
KnowingMore cells plan wide narrow room after other after' answer answer' =
    (width : ℕ) (rows : List (List ℕ)) (tree : Plan width rows) → IsTable cells width rows → write tree ≡ plan
    → IsGoal width wide → IsGoal width narrow → Instance wide narrow → length rows ≤ length room → length rows ≤ length other
    → NoMore tree wide narrow room after other after' answer answer'

-- "each row's hit count and the total tried over a W-202 list as exact sums of the single runs": there are such runs, and of whichever there
-- are these are the sums. A row's hit count is the number of the list's goals that it unifies with
pub record AddsUp (cells plan lent : List ℕ) (width : ℕ) (rows : List (List ℕ)) (jobs after : List Job) : Type 0 where
  pub single-runs : (found : List (List ℕ)) × (tried : List ℕ) × Singles cells plan lent (length rows) jobs found tried
  pub hits : {found : List (List ℕ)} {tried : List ℕ} → Singles cells plan lent (length rows) jobs found tried
      → (row : ℕ) → hit_count row after ≡ times_in row found
  pub tried : {found : List (List ℕ)} {tried : List ℕ} → Singles cells plan lent (length rows) jobs found tried → total_tried after ≡ sum tried
  pub means : (row : ℕ) → CountsJobs (Hit lent width rows row) jobs (hit_count row after)

abbrev pub Sums : (cells plan lent : List ℕ) (jobs after : List Job) → Type 0
Sums cells plan lent jobs after =
    (width : ℕ) (rows : List (List ℕ)) (tree : Plan width rows) → IsTable cells width rows → write tree ≡ plan
    → AddsUp cells plan lent width rows jobs after
