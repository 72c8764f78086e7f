-- A list of seven goals over the table (a,b) (v0,v0) (c,v0): (v0,v1), (a,v0), (a,b), (a,a), (v0,v0), one without cells and one past the lent
-- cells. What each hits and tries is proved in crate marked; here is what it adds up to, from the records and from the single runs.
use Prim.Native.Nat.{ℕ, ◌+◌, ◌*◌}
use mathlib.Core.Path.{◌≡◌, refl}
use mathlib.Core.Bool.{cond}
use mathlib.Core.List.{List, [], ◌∷◌}
use native.Mathlib.Omega.{arith}
use lib.Dec.{eqb}
use lib.ListN.{length}
use Rattle.cell.specs.Cell.{arity, values_at}
use Rattle.term.specs.Terms.{root}
use Rattle.refusal.specs.Refusal.{reason_number}
use Rattle.refusal.specs.declared.Reason.TheVariants as reason
use Rattle.refusal.specs.Read.{read}
use Rattle.table.specs.Table.{table_of, rows_from, terms_from, count, IsTable}
use Rattle.table.proofs.Accepted.{table-accepted}
use Rattle.plan.specs.Check.{plan_of, plan_with, state_from}
use Rattle.answer.specs.Jobs.{Each, nil, cons, Asked, outside, filled}
use Rattle.answer.specs.declared.Job.{Job}
use Rattle.knowing.specs.Knowing.{hit_count, total_tried, Singles, past, times_in, sum}
use Rattle.knowing.specs.Knowing as knowing
use Rattle.knowing.proofs.SumLaws.{sums}

-- a record by the two words that are added up
abbrev said : (hits tried : ℕ) → Job
said hits tried = record { start = 0; count = 2; number = 0; place = 0; hits = hits; tried = tried }

abbrev records : List Job
records = said 7 6 ∷ said 3 5 ∷ said 1 5 ∷ said 2 5 ∷ said 6 6 ∷ said 0 0 ∷ said 0 0 ∷ []

abbrev found : List (List ℕ)
found = (0 ∷ 1 ∷ 2 ∷ []) ∷ (0 ∷ 1 ∷ []) ∷ (0 ∷ []) ∷ (1 ∷ []) ∷ (1 ∷ 2 ∷ []) ∷ [] ∷ [] ∷ []

abbrev tried : List ℕ
tried = 6 ∷ 5 ∷ 5 ∷ 5 ∷ 6 ∷ 0 ∷ 0 ∷ []

pub of-records : (hit_count 0 records ≡ 3) × (hit_count 1 records ≡ 4) × (hit_count 2 records ≡ 2) × (total_tried records ≡ 27)
unfolding hit_count total_tried
of-records = (refl, refl, refl, refl)

pub of-single-runs : (times_in 0 found ≡ 3) × (times_in 1 found ≡ 4) × (times_in 2 found ≡ 2) × (sum tried ≡ 27)
unfolding times_in sum count
of-single-runs = (refl, refl, refl, refl)

-- WRONG STATEMENTS about a list, each in the form of the law `sums` (SumLaws), and that it is false. What is said of the plan's number of
-- branches, a row, the records, and the rows and numbers that the single runs report:
abbrev pub Claim : Type 1
Claim = (branches row : ℕ) (after : List Job) (reports : List (List ℕ)) (tries : List ℕ) → Type 0

-- and that as a law: of every accepted table and plan, and every list of goals
pub record Law (claim : Claim) : Type 0 where
  pub holds : (t p lent : List ℕ) {width branches : ℕ} {rows : List (List ℕ)} → IsTable t width rows → plan_of t p ≡ read branches
      → {jobs after : List Job} {reports : List (List ℕ)} {tries : List ℕ} → Each (Asked t p lent) jobs after
      → Singles t p lent (length rows) jobs reports tries → (row : ℕ) → claim branches row after reports tries

-- the true one
pub sums-law : Law (λ branches row after reports tries. (hit_count row after ≡ times_in row reports) × (total_tried after ≡ sum tries))
sums-law = record { holds = λ t p lent it d asked singles row. sums t p lent it asked singles row }

-- how many records say that their goal is refused
unfoldable pub refusals : List Job → ℕ
refusals [] = 0
refusals (j ∷ jobs) = cond (eqb j.number 0) 0 1 + refusals jobs

-- wrong: in the total a refused goal counts with the plan's branches
abbrev pub RefusedCounted : Type 0
RefusedCounted = Law (λ branches row after reports tries. total_tried after + branches * refusals after ≡ sum tries)

-- wrong: a row's hit count is the number of records
abbrev pub RecordsCounted : Type 0
RecordsCounted = Law (λ branches row after reports tries. length after ≡ times_in row reports)

-- The table (v0), its plan of one branch, and a list of one goal, past the lent cells: so no run is needed. What a law says of them.
at-example : {claim : Claim} → Law claim → claim 1 0 (filled (said 0 0) (reason_number reason.Length) 0 0 0 ∷ []) ([] ∷ []) (0 ∷ [])
unfolding table_of rows_from terms_from plan_with state_from root arity values_at
at-example law =
    let it = (table-accepted (1 ∷ 1 ∷ 0 ∷ []) 1 ((0 ∷ []) ∷ [])).0 refl in
    law.holds (1 ∷ 1 ∷ 0 ∷ []) (0 ∷ 1 ∷ 0 ∷ 1 ∷ []) [] it refl
    (cons {x = said 0 0} (outside (omega arith) refl) nil) (past (omega arith) knowing.done) 0

-- the total would be 1 for 0
pub refused-not-counted : ¬ RefusedCounted
unfolding total_tried refusals sum
refused-not-counted law = omega (arith, at-example law)

-- and so would the hit count
pub records-not-counted : ¬ RecordsCounted
unfolding times_in count
records-not-counted law = omega (arith, at-example law)
