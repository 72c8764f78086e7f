-- WRONG STATEMENTS about two runs (02, W-214), each in the form of the law `run_more` (knowing/proofs/SumLaws), and that it is false by the runs
-- of `instances`. Those about a list of goals are in knowing/proofs/Examples.
use Rattle.std.specs.Prelude.{Result, Ok}
use Rattle.answer.specs.declared.RunCounts.{RunCounts}
use Rattle.refusal.specs.declared.Refusal.{Refusal}
use Prim.Native.Nat.{ℕ, ◌≤◌, ◌<◌}
use mathlib.Core.Path.{◌≡◌, refl, sym, ◌∙◌}
use mathlib.Core.List.{List, [], ◌∷◌, ◌++◌}
use native.Mathlib.Omega.{arith}
use lib.ListN.{length, get_or, drop, replicate, length-replicate}
use lib.Seq.{take-append_seam}
use Rattle.cell.specs.Cell.{arity, is_var, values_at}
use Rattle.term.specs.Terms.{Terms, none}
use Rattle.term.specs.Unify.{inst, Subst}
use Rattle.term.specs.Bind.{bind, id_s}
use Rattle.term.proofs.Inst.{Subst-id, Subst-bind, Terms-var, Terms-symbol}
use Rattle.refusal.specs.Refusal.{answered}
use Rattle.refusal.specs.Read.{read}
use Rattle.table.proofs.Accepted.{is-table, all-at}
use Rattle.plan.specs.Check.{plan_of}
use Rattle.plan.proofs.CheckLaws.{accepted-one}
use Rattle.plan.proofs.PlansLaws.{write-one}
use Rattle.answer.specs.Run.{run_told, Ran}
use Rattle.answer.specs.Run as run
use Rattle.answer.proofs.TakesLaws.{takes_run}
use Rattle.instance.specs.Instance.{Instance}
use Rattle.knowing.specs.Knowing.{Among, kept, left_out, reported, tried_of}
use Rattle.knowing.specs.Knowing as knowing
use Rattle.knowing.proofs.SumLaws.{run_more}
use Rattle.marked.specs.Examples.{built, RanSays, Says, instances, a, b, three, plan_three, single, four, plan_two, plan_four}
use Rattle.marked.proofs.Cases.{known_more}

-- what is said of the rows that a goal and its instance report, and of the branches that they try
abbrev pub Claim : Type 1
Claim = (rows rows' : List ℕ) (tried tried' : ℕ) → Type 0

-- and that as a law of a table: the goal is run by the plan p, its instance by the plan q, and both are answered
pub record Law (t p q : List ℕ) (claim : Claim) : Type 0 where
  pub holds : {wide narrow room after other after' : List ℕ} {r s : Result RunCounts Refusal} {h n h' n' : ℕ} → Instance wide narrow
      → Ran t p wide room after r → Ran t q narrow other after' s → run_told r ≡ answered h n → run_told s ≡ answered h' n'
      → claim (reported (run_told r) after) (reported (run_told s) after') (tried_of (run_told r)) (tried_of (run_told s))

-- the true one
pub more-law : (t p : List ℕ) → Law t p p (λ rows rows' tried tried'. Among rows' rows × (tried' ≤ tried))
more-law t p = record { holds = run_more }

-- wrong: the goal's rows are among its instance's
abbrev pub AmongTurned : Type 0
AmongTurned = (t p : List ℕ) → Law t p p (λ rows rows' tried tried'. Among rows rows')

-- wrong: the instance tries as many branches as the goal
abbrev pub EqualTries : Type 0
EqualTries = (t p : List ℕ) → Law t p p (λ rows rows' tried tried'. tried' ≡ tried)

-- wrong: it tries no more, by whichever plan
abbrev pub FewerByAnyPlan : Type 0
FewerByAnyPlan = (t p q : List ℕ) → Law t p q (λ rows rows' tried tried'. tried' ≤ tried)

-- There is a run such as an example speaks of: in 64 bytes.
run-there : {t p goal hits : List ℕ} {cost tried : ℕ} → RanSays t p cost goal hits tried
    → Ran t p goal (replicate 64 0) (hits ++ drop (length hits) (replicate 64 0)) (Ok (record { hits = length hits; tried = tried }))
run-there {t} {p} {hits = hits} {cost} {tried} s =
    let k = s.plans in
    let i = is-table t k.reads in
    let d : plan_of t p ≡ read cost =
    rw k.reads ((accepted-one k.table i p cost).1 (k.tree, k.writes, k.count, λ q w. write-one q k.tree (w ∙ sym k.writes))) in
    let l : length k.table.rows ≤ length (replicate {A = ℕ} 64 0) = omega (arith, i.count.1, length-replicate {A = ℕ} 64 0) in
    let takes = takes_run (record { table = k.reads; branches = cost; plan = d; variables = s.vars; goal = s.reads; room_for = l }) in
    run.ran k.table k.tree hits tried takes (sym k.writes) s.found s.tries refl refl

-- What a law says of two examples.
at-examples : {t p q : List ℕ} {claim : Claim} → Law t p q claim → {wide narrow rows rows' : List ℕ} {cost cost' tried tried' : ℕ}
    → Instance wide narrow → RanSays t p cost wide rows tried → RanSays t q cost' narrow rows' tried' → claim rows rows' tried tried'
at-examples law {rows = rows} {rows'} i x y =
    let first = take-append_seam rows (drop (length rows) (replicate 64 0)) in
    let first' = take-append_seam rows' (drop (length rows') (replicate 64 0)) in
    rw (first, first') at (law.holds i (run-there x) (run-there y) refl refl)

-- More is known: v0 becomes a symbol x without arguments, and v1, which is the first then, v0.
abbrev step : ℕ → ℕ → List ℕ
step x = bind 0 (x ∷ []) (bind 1 (0 ∷ []) id_s)

step-good : (x : ℕ) → arity x ≡ 0 → Subst (step x)
unfolding is_var
step-good x e =
    let t : Terms (arity x) [] = rw e none in
    Subst-bind 0 refl (Terms-symbol x t) (Subst-bind 1 refl (Terms-var refl) Subst-id)

stepped : (x : ℕ) → arity x ≡ 0 → {wide narrow : List ℕ} → inst (step x) wide ≡ narrow → Instance wide narrow
stepped x e q = record { by = step x; good = step-good x e; same = q }

-- an example by its number
said : (n : ℕ) → n < length instances → Says (get_or instances n (built [] [] 0))
said n l = all-at Says instances n (built [] [] 0) known_more l

among-length : {xs ys : List ℕ} → Among xs ys → length xs ≤ length ys
among-length knowing.none = omega arith
among-length (kept m) = let l = among-length m in omega arith
among-length (left_out m) = let l = among-length m in omega arith

-- (a,v0) reports rows 0 1, its instance (a,b) row 0
pub among-not-turned : ¬ AmongTurned
unfolding instances inst bind id_s arity values_at
among-not-turned w =
    let m = at-examples (w three plan_three) (stepped b refl refl) (said 1 (omega arith)).1 (said 2 (omega arith)).1 in
    omega (arith, among-length m)

-- of the row (a,a) the goal (v0,v1) tries 2, its instance (b,v0) 1
pub tries-not-equal : ¬ EqualTries
unfolding instances inst bind id_s arity values_at
tries-not-equal w =
    let e = at-examples (w single _) (stepped b refl refl) (said 6 (omega arith)).1 (said 7 (omega arith)).1 in
    omega arith

-- (v0,c) tries 4 by one plan, its instance (a,c) 6 by the other
pub not-by-any-plan : ¬ FewerByAnyPlan
unfolding instances inst bind id_s arity values_at
not-by-any-plan w =
    let l = at-examples (w four plan_two plan_four) (stepped a refl refl) (said 8 (omega arith)).1 (said 9 (omega arith)) in
    omega arith
