-- What a run reports (01, "A run"; demand 2), by unification alone.
use Rattle.std.specs.Prelude.{Result, Ok, Err, ℕ, suc, ◌≤◌, ◌≡◌, List, [], ◌∷◌, ◌++◌, ltb, length, drop, replicate}
use Rattle.answer.specs.declared.RunCounts.{RunCounts}
use Rattle.refusal.specs.declared.Refusal.{Refusal}
use Rattle.term.specs.Unify.{Unifies, renamed, Matches}
use Rattle.refusal.specs.Refusal.{Refused, refused, told, Answer, answered, turned}
use Rattle.refusal.specs.declared.Reason.TheVariants as reason
use Rattle.refusal.specs.declared.Input.TheVariants as input
use Rattle.refusal.specs.Read.{Read, read, refuse, when, and_then}
use Rattle.table.specs.Table.{Table, table_of, goal_of}
use Rattle.plan.specs.Runs.{Run}
use Rattle.plan.specs.Plans.{Plan, leaf, node, Branches, end, next, write}
use Rattle.plan.specs.Check.{plan_of}
use Rattle.answer.specs.Skeleton.{hole, decide, opened}

-- demand 2, "exactly those .., from the top down, each once": the numbers of the rows of which P holds, the first row of the list being f
pub data Picks (P : List ℕ → Type 0) : List (List ℕ) → ℕ → List ℕ → Type 0 where
  none : {f : ℕ} → Picks P [] f []
  hit : {r : List ℕ} {rs : List (List ℕ)} {f : ℕ} {hs : List ℕ} → P r → Picks P rs (suc f) hs → Picks P (r ∷ rs) f (f ∷ hs)
  miss : {r : List ℕ} {rs : List (List ℕ)} {f : ℕ} {hs : List ℕ} → ¬ P r → Picks P rs (suc f) hs → Picks P (r ∷ rs) f hs

-- "from the top down, each once": numbers that ascend, none below f
pub data Ascends : ℕ → List ℕ → Type 0 where
  done : {f : ℕ} → Ascends f []
  more_of : {f x : ℕ} {xs : List ℕ} → f ≤ x → Ascends (suc x) xs → Ascends f (x ∷ xs)

-- of how many of a list P holds
pub data Counts (P : List ℕ → Type 0) : List (List ℕ) → ℕ → Type 0 where
  zero_of : Counts P [] 0
  one_of : {x : List ℕ} {xs : List (List ℕ)} {n : ℕ} → P x → Counts P xs n → Counts P (x ∷ xs) (suc n)
  none_of : {x : List ℕ} {xs : List (List ℕ)} {n : ℕ} → ¬ P x → Counts P xs n → Counts P (x ∷ xs) n

-- for each branch of a plan what is decided above it, K being decided above the plan
unfoldable mutual
  pub skeletons : {k : ℕ} {rows : List (List ℕ)} → Plan k rows → List ℕ → List (List ℕ)
  skeletons leaf K = []
  skeletons (node i h bs) K = skeletons_in bs i K

  pub skeletons_in : {k : ℕ} {gs : List Run} → Branches k gs → ℕ → List ℕ → List (List ℕ)
  skeletons_in end i K = []
  skeletons_in (next {g = g} p bs) i K = K ∷ (skeletons p (decide i g.cell K) ++ skeletons_in bs i K)

-- 01, "A branch is tried when the goal unifies with everything decided above that branch, each open place there counting as a fresh
-- variable"
unfoldable pub Tried : List ℕ → List ℕ → Type 0
Tried g K = Unifies (opened K) (renamed g)

-- 01, "A run takes table, plan, goal, then ROOM (fewer bytes lent than the table has rows)"; its place: "cells or bytes needed"
unfoldable pub run_of : (table plan goal room : List ℕ) → Read Table
run_of table plan goal room =
    and_then (table_of table) (λ (T : Table).
    and_then (plan_of table plan) (λ (branches : ℕ).
    and_then (goal_of T.width goal) (λ (vars : ℕ).
    when (ltb (length room) (length T.rows)) (refused reason.Room input.Lent (length T.rows)) (read T))))

abbrev pub run_told : Result RunCounts Refusal → Answer
run_told (Ok n) = answered n.hits n.tried
run_told (Err f) = turned (told f)

-- what a run of a table, a plan and a goal answers, and what the room then holds.
-- Refused: nothing is written. Otherwise the hits come first, "and the rest of the room is untouched"
pub data Ran (table plan goal room room' : List ℕ) (result : Result RunCounts Refusal) : Type 0 where
  refusal : (f : Refused) → run_of table plan goal room ≡ refuse f → run_told result ≡ turned f → room' ≡ room → Ran table plan goal room room' result
  ran : (T : Table) (tree : Plan T.width T.rows) (found : List ℕ) (tried : ℕ) → run_of table plan goal room ≡ read T → plan ≡ write tree
      → Picks (λ (row : List ℕ). Matches row goal) T.rows 0 found
      → Counts (Tried goal) (skeletons tree (replicate T.width hole)) tried
      → run_told result ≡ answered (length found) tried → room' ≡ found ++ drop (length found) room → Ran table plan goal room room' result
