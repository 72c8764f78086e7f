-- A plan as clauses (02, W-210; document 001, section 4, figure 6): "a predicate for the first state and each with several branches,
-- straight runs folded into heads". A predicate's arguments are its state's open places. For each branch of the state there is one clause:
-- what the straight run from there on decides stands in its head; where the run ends at a leaf that is a fact, and where it ends at a state
-- with several branches the body calls that state's predicate on the places that are still open. Figure 6 also hands on the row's variables
-- that are decided above: here there are none, for a state with several branches has several rows, and below a variable's branch there is
-- one.
use Rattle.std.specs.Prelude.{ℕ, suc, List, [], ◌∷◌, replicate}
use Rattle.table.specs.Table.{count, up_from}
use Rattle.plan.specs.Runs.{Run}
use Rattle.plan.specs.Plans.{Plan, leaf, node, Branches, end, next}
use Rattle.answer.specs.Skeleton.{hole, fill, decide}

-- "a predicate": its clauses in order, each with the predicate that it calls, not yet numbered
pub data Predicate : Type 0 where
  done : Predicate
  fact : (head : List ℕ) → Predicate → Predicate
  rule : (head : List ℕ) (called : Predicate) → Predicate → Predicate

-- what is decided ("folded into heads"), the open places being the variables 0, 1, 2 from the left
unfoldable pub head_of : List ℕ → List ℕ
head_of K = fill K (up_from 0 (count hole K))

-- one of two, by whether there are no more runs ("each with several branches")
abbrev pub single : {A : Type 0} → List Run → A → A → A
single [] x y = x
single (g ∷ gs) x y = y

-- the clauses of a state's branches, each from its open places on; and the clause that stands for a plan below a branch ("straight runs
-- folded into heads"), K being decided on the way, before those that follow
unfoldable mutual
  pub each : {k : ℕ} {gs : List Run} → Branches k gs → (i : ℕ) → Predicate
  each end i = done
  each (next {k} {g} p bs) i = clause p (decide i g.cell (replicate (suc k) hole)) (each bs i)

  pub clause : {k : ℕ} {rows : List (List ℕ)} → Plan k rows → (K : List ℕ) → Predicate → Predicate
  clause leaf K rest = fact K rest
  clause (node i h bs) K rest = clause_in bs i K rest

  pub clause_in : {k : ℕ} {gs : List Run} → Branches k gs → (i : ℕ) (K : List ℕ) → Predicate → Predicate
  clause_in end i K rest = rest
  clause_in (next {k} {g} {gs} p bs) i K rest =
      single gs (clause p (decide i g.cell K) rest)
      (rule (head_of K) (clause p (decide i g.cell (replicate (suc k) hole)) (each bs i)) rest)

-- "a predicate for the first state"
unfoldable pub predicate : {k : ℕ} {rows : List (List ℕ)} → Plan k rows → Predicate
predicate leaf = fact [] done
predicate (node i h bs) = each bs i
