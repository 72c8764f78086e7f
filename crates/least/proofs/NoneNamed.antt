-- "with no column named, or all of them, it is the plain least plan" (02, W-213): where every place may be chosen, the rule asks nothing of
-- the flags.
use mathlib.Core.Path.{◌≡◌, refl}
use mathlib.Core.Bool.{Bool, true, false}
use mathlib.Core.List.{List, []}
use Prim.Native.Nat.{ℕ, suc, ◌+◌, ◌≤◌, ◌<◌}
use native.Mathlib.Omega.{arith}
use lib.ListN.{replicate}
use Rattle.cell.specs.Cell.{arity}
use Rattle.plan.specs.Runs.{Run}
use Rattle.plan.specs.Plans.{Plan, leaf, node, Branches, end, next, Measure}
use Rattle.plan.specs.Named.{flag, spread, May, inside, freely, NamedFirst}
use Rattle.plan.proofs.NamedLaws.{no-column, Free, free-may, free-below, free-kind}
use Rattle.least.specs.Measures.{cost_from}
use Rattle.least.specs.Least.{Stuck, Least, Chosen, shared, cheapest, Built, Builts}

module _ (m : Measure) where
  pub free-least : {k n : ℕ} {rows : List (List ℕ)} (fs gs : List Bool) → Free fs k → Free gs k → Least m fs k rows n → Least m gs k rows n
  free-least fs gs f g l = record {
    plan = l.plan;
    kind = free-kind gs g l.plan;
    costs-it = l.costs-it;
    none-less = λ q s. l.none-less q (free-kind fs f q);
  }

  free-stuck : (fs gs : List Bool) (k j : ℕ) (rows : List (List ℕ)) → Free fs k → j ≤ k → Stuck fs j rows → Stuck gs j rows
  free-stuck fs gs k j rows f h s i c l a y = s i c l a (free-may fs k i f (omega arith))

  pub free-chosen : {k i : ℕ} {rows : List (List ℕ)} (fs gs : List Bool) → Free fs (suc k) → Free gs (suc k) → i ≤ k → Chosen m fs k rows i
      → Chosen m gs k rows i
  unfolding free-least
  free-chosen {k} {i} {rows} fs gs f g h (shared c a y s) =
      shared c a (free-may gs (suc k) i g (omega arith)) (free-stuck fs gs (suc k) i rows f (omega arith) s)
  free-chosen {k} {rows = rows} fs gs f g h (cheapest s best e u) =
      cheapest (free-stuck fs gs (suc k) (suc k) rows f (omega arith) s) (free-least fs gs f g best) e (λ q t. u q (free-kind fs f q))

  mutual
    unfolding Built

    pub free-built : {k : ℕ} {rows : List (List ℕ)} (fs gs : List Bool) → Free fs k → Free gs k → (p : Plan k rows) → Built m fs p → Built m gs p
    free-built fs gs f g leaf b = tt
    free-built fs gs f g (node i h bs) b = (free-chosen fs gs f g h b.0, frees-built fs gs i h f g bs b.1)

    frees-built : {k : ℕ} {rs : List Run} (fs gs : List Bool) (i : ℕ) → i ≤ k → Free fs (suc k) → Free gs (suc k) → (bs : Branches k rs)
        → Builts m fs i bs → Builts m gs i bs
    frees-built fs gs i h f g end b = tt
    frees-built fs gs i h f g (next {k} {g = r} p bs) b = (
      free-built (spread i (arity r.cell) fs) (spread i (arity r.cell) gs) (free-below fs k i (arity r.cell) h f)
          (free-below gs k i (arity r.cell) h g) p b.0,
      frees-built fs gs i h f g bs b.1,
    )

  -- the plain least plan, said as 01 says it
  pub plain-least : {k n : ℕ} {rows : List (List ℕ)} → Least m [] k rows n → (q : Plan k rows) → n ≤ cost_from m [] q
  plain-least l q = l.none-less q (no-column [] (λ j. refl) q)
