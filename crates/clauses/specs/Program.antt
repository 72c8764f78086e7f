-- The program of a plan (02, W-210, "a predicate for the first state and each with several branches"): its predicates numbered, their
-- clauses one after another. The order is that of the plan's states: a predicate with all its clauses, then each that it calls with all
-- below that, in clause order, so that no predicate is split. The first state's is number 0.
use Rattle.std.specs.Prelude.{ℕ, suc, ◌+◌, List, [], ◌∷◌, ◌++◌, length}
use Rattle.plan.specs.Plans.{Plan}
use Rattle.clauses.specs.Clauses.{Clause, clause_of, nothing, calls, handed}
use Rattle.clauses.specs.Translate.{Predicate, done, fact, rule, predicate}

-- how many predicates are called by some clauses, and below
unfoldable pub callees : Predicate → ℕ
callees done = 0
callees (fact h P) = callees P
callees (rule h Q P) = suc (callees Q + callees P)

-- the clauses of predicate k, which has w arguments; `next` is the number of the next predicate that is called
unfoldable pub own : (k w next : ℕ) → Predicate → List Clause
own k w next done = []
own k w next (fact h P) = clause_of k w h nothing ∷ own k w next P
own k w next (rule h Q P) = clause_of k w h (calls next) ∷ own k w (next + suc (callees Q)) P

-- and those of the predicates that are called
unfoldable pub below : (next : ℕ) → Predicate → List Clause
below next done = []
below next (fact h P) = below next P
below next (rule h Q P) = own next (length (handed h)) (suc next) Q ++ (below (suc next) Q ++ below (next + suc (callees Q)) P)

-- the program of a predicate of w arguments, and of a plan: the goal's predicate is number 0
unfoldable pub numbered : (w : ℕ) → Predicate → List Clause
numbered w P = own 0 w 1 P ++ below 1 P

abbrev pub program : {k : ℕ} {rows : List (List ℕ)} → Plan k rows → List Clause
program {k} p = numbered k (predicate p)
