-- 01's examples marked P, all under one theorem: what is printed there is what the promises' own definitions say. Likewise W-214's.
use Prim.Native.Nat.{ℕ, ◌≤◌}
use mathlib.Core.Path.{◌≡◌, refl, sym, ap, subst, ◌∙◌}
use mathlib.Core.Bool.{Bool, true, false}
use mathlib.Core.List.{List, [], ◌∷◌, ◌++◌, map, flatten}
use native.Mathlib.Omega.{arith}
use lib.ListN.{length, replicate}
use borrow.Author.Tests.{le-ltb}
use Rattle.cell.specs.Cell.{values_at, arity, is_var}
use Rattle.cell.specs.Same.{same, among}
use Rattle.term.specs.Terms.{front, back, root, close}
use Rattle.term.specs.Unify.{inst, renamed}
use Rattle.term.specs.Bind.{bind, id_s}
use Rattle.term.specs.code.Unifiable.{unifiable, unify, walk, bind_test, occurs}
use Rattle.table.specs.All.{All}
use Rattle.refusal.specs.declared.Input.TheVariants as input
use Rattle.refusal.specs.Refusal.{refused}
use Rattle.refusal.specs.Read.{Read, read, refuse, and_then}
use Rattle.table.specs.Table.{Table, table_of, terms_from, rows_from, goal_of, count, up_from}
use Rattle.table.proofs.ReadLaws.{first}
use Rattle.table.proofs.Accepted.{is-table, is-goal}
use Rattle.plan.specs.Runs.{agree}
use Rattle.plan.specs.Plans.{plain}
use Rattle.plan.specs.Check.{state_from, nothing_after, plan_with, plan_for, plan_of}
use Rattle.plan.proofs.CheckLaws.{accepted-one, rows_fit}
use Rattle.plan.proofs.PlansLaws.{write-one}
use Rattle.least.specs.Least.{Built}
use Rattle.least.specs.code.Best.{argmin, total, best}
use Rattle.least.proofs.Builder.{place, run_cells, plan_cells, plan-built}
use Rattle.least.proofs.Weighed.{plain-light}
use Rattle.answer.specs.Skeleton.{hole, fill, decide, opened}
use Rattle.answer.specs.Run.{skeletons}
use Rattle.answer.proofs.AcceptedLaws.{goal-head, table-loose}
use Rattle.answer.proofs.OpenGoalLaws.{skeletons-terms}
use Rattle.answer.proofs.Decided.{hits_by, hits-by, tried_by, tried-by, row-terms, run_by}
use Rattle.answer.proofs.TakesLaws.{Takes}
use Rattle.marked.specs.Examples.{Example, turned, plan_turned, built, ran, ran_by, PlanSays, BuiltSays, RanSays, Says, P, marked, instances}
use Rattle.marked.specs.Examples.{table_cells, p1, p2, plan2, p3, plan3, p7, p8, plan8, plan9}
use Rattle.marked.specs.Examples.{three, plan_three, single, four, plan_two, plan_four}
use Rattle.marked.proofs.Above.{Got, above, above-right}

-- What is computed: by the definitions' own functions, and where they speak of substitutions by decisions that are proved right.
abbrev rows_in : Read Table → List (List ℕ)
rows_in (read T) = T.rows
rows_in (refuse f) = []

abbrev width_in : Read Table → ℕ
width_in (read T) = T.width
width_in (refuse f) = 0

-- the cells of the builder's plan
unfoldable planned : Read Table → List ℕ
planned r = plan_cells plain 32 [] (width_in r) (rows_in r)

-- what is decided above each branch of a plan
unfoldable above_all : Read Table → List ℕ → List (List ℕ)
above_all r p = (above 32 (width_in r) (rows_in r) (replicate (width_in r) hole) (p ++ [])).above

-- the check of a plan after SIZE
unfoldable after_size : Read Table → List ℕ → Read ℕ
after_size r cells = and_then r (λ (T : Table). and_then (state_from 32 [] T.width T.rows 0 cells) nothing_after)

after-size : (t cells : List ℕ) → length cells ≤ 6082 → plan_of t cells ≡ after_size (table_of t) cells
unfolding plan_with after_size
after-size t cells l = go (table_of t)
  where
    go : (r : Read Table) → and_then r (λ (T : Table). plan_for T cells) ≡ after_size r cells
    go (read T) = rw (le-ltb 6082 (length cells) l)
    go (refuse f) = refl

-- an example's outcome: the reading of the table, the check of the plans that start so, the builder's cells, whether the goal is read, the
-- hits and the branches tried
data Outcome : Type 0 where
  of-table : Read Table → Outcome
  of-plans : (List ℕ → Read ℕ) → Outcome
  of-built : Read ℕ → List ℕ → Outcome
  of-run : Read ℕ → List ℕ → Bool → List ℕ → ℕ → Outcome
  of-run-by : Read ℕ → Bool → List ℕ → ℕ → Outcome

abbrev is_read : Read ℕ → Bool
is_read (read n) = true
is_read (refuse f) = false

unfoldable computed : Example → Outcome
computed (turned t n p) = of-table (table_of t)
computed (plan_turned t start n p) = of-plans (λ rest. after_size (table_of t) (start ++ rest))
computed (built t p cost) = of-built (plan_of t p) (planned (table_of t))
computed (ran t p cost g hits tried) =
    of-run (plan_of t p) (planned (table_of t)) (is_read (goal_of (width_in (table_of t)) g))
    (hits_by g (rows_in (table_of t)) 0) (tried_by g (above_all (table_of t) p))
computed (ran_by t p cost g hits tried) =
    of-run-by (plan_of t p) (is_read (goal_of (width_in (table_of t)) g)) (hits_by g (rows_in (table_of t)) 0) (tried_by g (above_all (table_of t) p))

-- what 01 prints
unfoldable printed : Example → Outcome
printed (turned t n p) = of-table (refuse (refused n input.Table p))
printed (plan_turned t start n p) = of-plans (λ rest. refuse (refused n input.Plan p))
printed (built t p cost) = of-built (read cost) p
printed (ran t p cost g hits tried) = of-run (read cost) p true hits tried
printed (ran_by t p cost g hits tried) = of-run-by (read cost) true hits tried

-- What is computed is what is said.
plan-says : (t p : List ℕ) (cost : ℕ) → plan_of t p ≡ read cost → PlanSays t p cost
plan-says t p cost e =
    let f = first (table_of t) (λ (T : Table). plan_for T p) e in
    let a = (accepted-one f.0 (is-table t f.1) p cost).0 f.2 in
    record { table = f.0; reads = f.1; tree = a.0; writes = a.1; count = a.2 }

built-says : (t p : List ℕ) (cost : ℕ) → plan_of t p ≡ read cost → planned (table_of t) ≡ p → BuiltSays t p cost
unfolding planned
built-says t p cost e q =
    let s = plan-says t p cost e in
    let T = s.table in
    let i = is-table t s.reads in
    let b = plan-built plain plain-light 32 [] T.width T.rows (omega arith) (rows_fit T.width T.rows i.each) i.count.0 in
    let w : plan_cells plain 32 [] T.width T.rows ≡ p = rw s.reads at q in
    let same : b.plan ≡ s.tree = write-one b.plan s.tree (b.writes-it ∙ w ∙ sym s.writes) in
    record { plans = s; rule = subst (Built plain []) same b.built }

is_read_lem : (r : Read ℕ) → is_read r ≡ true → (v : ℕ) × (r ≡ read v)
is_read_lem (read v) e = (v, refl)
is_read_lem (refuse f) e = let z : ◌≡◌ {A = ℕ} 0 1 = cc in absurd (omega arith)

module _ (t p : List ℕ) (cost : ℕ) (g hits : List ℕ) (tried : ℕ) (e : plan_of t p ≡ read cost) where
  ran_says : is_read (goal_of (width_in (table_of t)) g) ≡ true → hits_by g (rows_in (table_of t)) 0 ≡ hits
      → tried_by g (above_all (table_of t) p) ≡ tried
      → RanSays t p cost g hits tried
  unfolding above_all
  ran_says r h c =
      let B = plan-says t p cost e in
      let T = B.table in
      let i = is-table t B.reads in
      let fit = rows_fit T.width T.rows i.each in
      let K : List ℕ = replicate T.width hole in
      let s : above 32 T.width T.rows K (p ++ []) ≡ record { above = skeletons B.tree K; rest = [] } =
      sym (ap (λ (xs : List ℕ). above 32 T.width T.rows K (xs ++ [])) B.writes)
      ∙ above-right 32 T.width T.rows fit i.count.0 B.tree K [] in
      let k : hits_by g T.rows 0 ≡ hits = rw B.reads at h in
      let n : tried_by g (skeletons B.tree K) ≡ tried = rw (ap (λ (x : Got). x.above) s) at (rw B.reads at c) in
      let v = is_read_lem (goal_of T.width g) (rw B.reads at r) in
      let u = (goal-head (is-goal T.width g v.1).0).terms in
      let tries = tried-by T.width g u (skeletons B.tree K) (skeletons-terms T.width B.tree (table-loose i) i.count.0) in
      let takes : (room : List ℕ) → length T.rows ≤ length room → Takes t p g room T =
      λ room l. record { table = B.reads; branches = cost; plan = e; variables = v.0; goal = v.1; room_for = l } in
      record {
        plans = B;
        vars = v.0;
        reads = v.1;
        found = rw k at (hits-by T.width g u T.rows 0 (row-terms T.width T.rows i.each));
        tries = rw n at tries;
        answers = λ room after r l u. rw (k, n) at (run_by B.tree (takes room l) B.writes u);
      }

says : (x : Example) → computed x ≡ printed x → Says x
unfolding computed printed
says (turned t n p) e = cc
says (plan_turned t start n p) e =
    let alike : ◌≡◌ {A = List ℕ → Read ℕ} (λ rest. after_size (table_of t) (start ++ rest)) (λ rest. refuse (refused n input.Plan p)) = cc in
    λ rest l. after-size t (start ++ rest) l ∙ ap (λ (f : List ℕ → Read ℕ). f rest) alike
says (built t p cost) e = built-says t p cost (cc) (cc)
says (ran t p cost g hits tried) e = (built-says t p cost (cc) (cc), ran_says t p cost g hits tried (cc) (cc) (cc) (cc))
says (ran_by t p cost g hits tried) e = ran_says t p cost g hits tried (cc) (cc) (cc) (cc)

each : {A B : Type 0} (f h : A → B) (xs : List A) → map f xs ≡ map h xs → All (λ (x : A). f x ≡ h x) xs
each f h [] e = tt
each f h (x ∷ xs) e = (cc, each f h xs (cc))

all_say : {A : Type 0} (f : A → Example) (xs : List A) → All (λ (x : A). computed (f x) ≡ printed (f x)) xs → All (λ (x : A). Says (f x)) xs
all_say f [] a = tt
all_say f (x ∷ xs) a = (says (f x) a.0, all_say f xs a.1)

all-computed : (map (λ (x : P). computed x.example) marked ≡ map (λ (x : P). printed x.example) marked)
    × (map computed instances ≡ map printed instances)
unfolding marked instances computed printed planned above_all after_size table_cells p1 p2 plan2 p3 plan3 p7 p8 plan8 plan9 three plan_three single four
    plan_two plan_four table_of rows_from among same terms_from goal_of plan_with state_from plan_cells place run_cells best total argmin root close agree arity
    values_at is_var flatten hits_by tried_by above unifiable unify walk bind_test occurs renamed inst bind id_s front back opened fill decide hole count
    up_from
all-computed = (refl, refl)

-- P1 to P10: each says what is so, and none is left out
pub examples : All (λ (x : P). Says x.example) marked
    × (map (λ (x : P). x.number) marked ≡ 1 ∷ 2 ∷ 2 ∷ 3 ∷ 3 ∷ 4 ∷ 5 ∷ 6 ∷ 7 ∷ 8 ∷ 9 ∷ 9 ∷ 9 ∷ 9 ∷ 10 ∷ [])
unfolding marked
examples = (
  all_say (λ (x : P). x.example) marked (each (λ (x : P). computed x.example) (λ (x : P). printed x.example) marked all-computed.0),
  refl,
)

-- W-214's
pub known_more : All Says instances
known_more = all_say (λ (x : Example). x) instances (each computed printed instances all-computed.1)
