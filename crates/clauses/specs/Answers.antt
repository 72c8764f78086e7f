-- What a program answers to a goal of one of its predicates (02, W-210, "State what such clauses answer, in clause order"), as Prolog
-- means it: ISO/IEC 13211-1, 7.7, for clauses whose body is nothing or one call. The predicate's clauses are taken from the top. Where
-- the goal and a head have a most general common instance, the body is called as that instance makes it, and each answer to the call, in
-- its order, is one to the goal; then the next clause is taken. Where they have none, only that. Head and goal have substitutions of
-- their own, so a clause's variables are apart from the goal's; they unify exactly where they have something in common, with the occurs
-- check (01, first paragraph). An answer is the goal's instance, its variables numbered by first appearance, as W-203's replies are. No
-- unifier and no order of work is said here, and no plan, table or row.
use Rattle.std.specs.Prelude.{ℕ, ◌≡◌, ◌≢◌, List, [], ◌∷◌, ◌++◌}
use Rattle.term.specs.Unify.{inst, Subst}
use Rattle.instance.specs.Instance.{Instance, Common, MostGeneral}
use Rattle.instance.specs.Reply.{Numbered, Reply}
use Rattle.clauses.specs.Clauses.{Body, nothing, calls, Clause, clause_of, handed}

-- nothing is an instance of both (W-203, "common instance": there is none)
abbrev pub Disjoint : (xs ys : List ℕ) → Type 0
Disjoint xs ys = (zs : List ℕ) → Common xs ys zs → ⊥

-- zs is an instance of the goal as it is when the call is made, by which the call becomes one of this answer to it
pub record Passes (goal call answer zs : List ℕ) : Type 0 where
  pub by : ℕ → List ℕ
  pub good : Subst by
  pub same : inst by goal ≡ zs
  pub fits : Instance answer (inst by call)

-- what an answer to the call makes of the goal: the most general of these
pub record Passed (goal call answer cells : List ℕ) : Type 0 where
  pub passes : Passes goal call answer cells
  pub most : (us : List ℕ) → Passes goal call answer us → Instance cells us
  pub order : Numbered cells

-- each answer to the call, in its order ("in clause order")
pub data AllPassed (goal call : List ℕ) : List (List ℕ) → List (List ℕ) → Type 0 where
  none : AllPassed goal call [] []
  next : {answer cells : List ℕ} {found all : List (List ℕ)} → Passed goal call answer cells → AllPassed goal call found all
      → AllPassed goal call (answer ∷ found) (cells ∷ all)

-- of a program: the clauses still to be taken, the predicate that is asked, the goal's arguments, the answers "in clause order"
pub data AnswersFrom (program : List Clause) : List Clause → (predicate : ℕ) (goal : List ℕ) → List (List ℕ) → Type 0 where
  none : {k : ℕ} {goal : List ℕ} → AnswersFrom program [] k goal []
  other : {k : ℕ} {c : Clause} {cs : List Clause} {goal : List ℕ} {all : List (List ℕ)}
      → c.predicate ≢ k → AnswersFrom program cs k goal all
      → AnswersFrom program (c ∷ cs) k goal all
  fact-fits : {k w : ℕ} {head goal cells : List ℕ} {cs : List Clause} {all : List (List ℕ)} → Reply head goal cells
      → AnswersFrom program cs k goal all → AnswersFrom program (clause_of k w head nothing ∷ cs) k goal (cells ∷ all)
  rule_fits : {k w j : ℕ} {head goal : List ℕ} {cs : List Clause} {found passed others all : List (List ℕ)} (by : ℕ → List ℕ) → Subst by
      → MostGeneral head goal (inst by head) → AnswersFrom program program j (inst by (handed head)) found
      → AllPassed (inst by head) (inst by (handed head)) found passed → AnswersFrom program cs k goal others → all ≡ passed ++ others
      → AnswersFrom program (clause_of k w head (calls j) ∷ cs) k goal all
  fails : {k w : ℕ} {head goal : List ℕ} {body : Body} {cs : List Clause} {all : List (List ℕ)} → Disjoint head goal
      → AnswersFrom program cs k goal all → AnswersFrom program (clause_of k w head body ∷ cs) k goal all

-- "what such clauses answer": all of the program's are taken
abbrev pub Answers : (program : List Clause) (predicate : ℕ) (goal : List ℕ) → List (List ℕ) → Type 0
Answers program k goal all = AnswersFrom program program k goal all
