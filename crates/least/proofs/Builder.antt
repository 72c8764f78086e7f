-- The builder's plan as cells, by a function: each state of a table has one, and the function gives what it writes.
use mathlib.Core.Path.{◌≡◌, refl}
use mathlib.Core.Bool.{Bool}
use mathlib.Core.List.{List, [], ◌∷◌, ◌++◌}
use Prim.Native.Nat.{ℕ, zero, suc, ◌+◌, ◌≤◌, ◌<◌}
use native.Mathlib.Omega.{arith}
use lib.ListN.{length}
use Rattle.cell.specs.Cell.{arity}
use Rattle.term.specs.Terms.{Terms, root, close}
use Rattle.table.specs.All.{All}
use Rattle.table.proofs.AllLaws.{all-each}
use Rattle.plan.specs.Runs.{Run, runs}
use Rattle.plan.specs.Plans.{Plan, leaf, node, Branches, end, next, write, writes, Measure}
use Rattle.plan.specs.Named.{spread, may}
use Rattle.plan.proofs.NamedLaws.{Some, some, some-may, spread-length}
use Rattle.plan.proofs.RunsLaws.{Each, Sized, group-sizes, fits-some, runs_fit}
use Rattle.plan.specs.code.Fits.{Fits}
use Rattle.least.specs.code.Best.{argmin, total, best}
use Rattle.least.specs.code.Low.{Light}
use Rattle.least.specs.Least.{Chosen, Built, Builts}
use Rattle.least.proofs.Minimum.{argmin-first}
use Rattle.least.proofs.Best.{best-runs, best-least}
use Rattle.least.proofs.Building.{rank, chosen-first}

-- what the branches of each place cost at least
abbrev pub below : Measure → ℕ → List Bool → ℕ → List (List ℕ) → ℕ → ℕ
below m n fs k rows i = total m (λ c g. best m n (spread i (arity c) fs) (arity c + k) g) (runs i rows)

-- the place that the rule takes at a state with k + 1 open places, whose rows have at most n + 1 cells
unfoldable pub place : Measure → ℕ → List Bool → ℕ → List (List ℕ) → ℕ
place m n fs k rows = argmin (may fs) k (rank m rows (below m n fs k rows))

-- the cells of some branches, by those of what stands below each
unfoldable pub run_cells : (ℕ → List (List ℕ) → List ℕ) → List Run → List ℕ
run_cells f [] = []
run_cells f (g ∷ gs) = g.cell ∷ (f g.cell g.rows ++ run_cells f gs)

-- the cells of the plan. The first number bounds the depth and never decides
unfoldable pub plan_cells : Measure → ℕ → List Bool → ℕ → List (List ℕ) → List ℕ
plan_cells m zero fs k rows = length rows ∷ []
plan_cells m (suc n) fs zero rows = length rows ∷ []
plan_cells m (suc n) fs (suc k) rows =
    let i : ℕ = place m n fs k rows in
    i ∷ (length (runs i rows) ∷ run_cells (λ c g. plan_cells m n (spread i (arity c) fs) (arity c + k) g) (runs i rows))

-- a plan that follows the rule and writes these cells
pub record Builds (m : Measure) (fs : List Bool) (k : ℕ) (rows : List (List ℕ)) (cells : List ℕ) : Type 0 where
  pub plan : Plan k rows
  pub built : Built m fs plan
  pub writes-it : write plan ≡ cells

record BuildsAll (m : Measure) (fs : List Bool) (i k : ℕ) (gs : List Run) (cells : List ℕ) : Type 0 where
  pub plans : Branches k gs
  pub built : Builts m fs i plans
  pub writes-it : writes plans ≡ cells

module _ (m : Measure) (light : Light m) where
  place-chosen : (n : ℕ) (fs : List Bool) (k : ℕ) (rows : List (List ℕ)) → length fs ≤ suc k → All (Fits (suc n) (suc k)) rows
      → (place m n fs k rows ≤ k) × Chosen m fs k rows (place m n fs k rows)
  unfolding place
  place-chosen n fs k rows few a = go (some-may fs k few)
    where
      go : Some fs (suc k) → (argmin (may fs) k (rank m rows (below m n fs k rows)) ≤ k)
          × Chosen m fs k rows (argmin (may fs) k (rank m rows (below m n fs k rows)))
      go (some j l y) =
          let f = argmin-first (may fs) (rank m rows (below m n fs k rows)) k j (omega arith) y in (
            f.within,
            chosen-first m light fs rows (below m n fs k rows) (all-each (Fits (suc n) (suc k)) (Terms (suc k)) (λ r x. x.0) rows a)
                (λ j h y. best-runs m n (best-least m n) fs j k few h (runs j rows) (runs_fit n k j h rows a) (length rows)
                (group-sizes (root j) (close j) rows)) f,
          )

  abbrev Makes : ℕ → Type 0
  Makes n =
      (fs : List Bool) (k : ℕ) (rows : List (List ℕ)) → length fs ≤ k → All (Fits n k) rows → 0 < length rows
      → Builds m fs k rows (plan_cells m n fs k rows)

  runs-built : (n : ℕ) → Makes n → (fs : List Bool) (i k : ℕ) → length fs ≤ suc k → i ≤ k
      → (gs : List Run) → Each (λ (c : ℕ). Fits n (arity c + k)) gs → (s : ℕ) → Sized s gs
      → BuildsAll m fs i k gs (run_cells (λ c g. plan_cells m n (spread i (arity c) fs) (arity c + k) g) gs)
  unfolding Builts writes run_cells
  runs-built n ih fs i k few l [] a s b = record { plans = end; built = tt; writes-it = refl }
  runs-built n ih fs i k few l (g ∷ gs) a s b =
      let p = ih (spread i (arity g.cell) fs) (arity g.cell + k) g.rows (spread-length i (arity g.cell) k fs few l) a.0 b.0.0 in
      let bs = runs-built n ih fs i k few l gs a.1 s b.1 in
      record { plans = next p.plan bs.plans; built = (p.built, bs.built); writes-it = rw (p.writes-it, bs.writes-it) }

  -- THE BUILDER'S PLAN EXISTS at each state with a row, whose rows are terms of at most n cells
  pub plan-built : (n : ℕ) → Makes n
  unfolding Built write plan_cells
  plan-built zero fs zero rows few a h = record { plan = leaf; built = tt; writes-it = refl }
  plan-built (suc n) fs zero rows few a h = record { plan = leaf; built = tt; writes-it = refl }
  plan-built zero fs (suc k) rows few a h = absurd (omega (arith, fits-some 0 k rows a h))
  plan-built (suc n) fs (suc k) rows few a h =
      let c = place-chosen n fs k rows few a in
      let i : ℕ = place m n fs k rows in
      let bs = runs-built n (plan-built n) fs i k few c.0 (runs i rows) (runs_fit n k i c.0 rows a)
      (length rows) (group-sizes (root i) (close i) rows) in
      record { plan = node i c.0 bs.plans; built = (c.1, bs.built); writes-it = rw bs.writes-it }
