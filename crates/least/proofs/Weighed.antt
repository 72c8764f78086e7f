-- Our measures' weights are small. What a plan costs by a measure with small weights and a small figure, from its number of branches; and what an
-- open place of a state adds
-- at which nothing is agreed that may be chosen.
use mathlib.Core.Path.{◌≡◌, refl}
use mathlib.Core.Bool.{Bool, true, false, cond, ◌&&◌}
use mathlib.Core.List.{List, ◌∷◌}
use Prim.Native.Nat.{ℕ, zero, suc, ◌+◌, ◌*◌, ◌≤◌, ◌<◌}
use native.Mathlib.Omega.{arith}
use lib.Dec.{leb, ltb}
use lib.ListN.{length}
use borrow.Author.Tests.{leb-true, le-leb}
use Rattle.cell.specs.Cell.{arity, is_var}
use Rattle.cell.proofs.CellLaws.{arity-small}
use Rattle.term.specs.Terms.{root, close}
use Rattle.table.specs.Table.{count}
use Rattle.plan.specs.Runs.{Run, runs}
use Rattle.plan.specs.Plans.{Plan, leaf, node, Branches, end, next, branches, branches_in, Measure, plain, choice}
use Rattle.plan.specs.Named.{May}
use Rattle.plan.proofs.RunsLaws.{group-some}
use Rattle.least.specs.Least.{Stuck}
use Rattle.least.specs.Measures.{work_of, work, measure_of, weight_at, cost_from, costs_from}
use Rattle.least.specs.code.Low.{Light, Low}
use Rattle.least.specs.declared.By.{By}
use Rattle.least.specs.declared.By.TheVariants as by
use Rattle.least.proofs.Agreed.{one-agrees}

-- a variable weighs 1 by 01's measure, and 0 by the work of W-204
pub plain-light : Light plain
plain-light = record { variable = λ c v. omega arith }

work-light : (f : ℕ) → Light (work f)
unfolding work_of
work-light f = record { variable = λ c v. (rw v (omega arith)) }

pub by-light : (b : By) → Light (measure_of b)
by-light by.Branches = plain-light
by-light (by.Work f) = work-light f

plain-low : Low plain
plain-low = record { light = plain-light; weight = λ c. omega arith; figure = omega arith }

work-small : (c : ℕ) → work_of c ≤ 5
unfolding work_of
work-small c = go (is_var c)
  where
    go : (b : Bool) → cond b 0 (suc (arity c)) ≤ 5
    go true = omega arith
    go false = omega (arith, arity-small c)

work-low : (f : ℕ) → f ≤ 15 → Low (work f)
work-low f h = record { light = work-light f; weight = work-small; figure = h }

-- each measure that is asked for, where the figure is not refused
pub by-low : (b : By) → (measure_of b).figure ≤ 15 → Low (measure_of b)
by-low by.Branches h = plain-low
by-low (by.Work f) h = work-low f h

module _ (m : Measure) (l : Low m) where
  choice-few : (n : ℕ) → choice m n ≤ 15 * n
  choice-few n = go (leb 2 n) refl
    where
      go : (b : Bool) → leb 2 n ≡ b → cond b m.figure 0 ≤ 15 * n
      go true e = omega (arith, l.figure, leb-true 2 n e)
      go false e = omega arith

  at-few : (met : List ℕ) (c : ℕ) → weight_at m met c ≤ 5
  at-few met c = go (is_var c && ltb 0 (count c met))
    where
      go : (b : Bool) → cond b 1 (m.weight c) ≤ 5
      go true = omega arith
      go false = l.weight c

  mutual
    unfolding cost_from branches

    -- so 2,048 branches cost at most 40,960
    pub cost-few : {k : ℕ} {rows : List (List ℕ)} (met : List ℕ) (p : Plan k rows) → cost_from m met p ≤ 20 * branches p
    cost-few met leaf = omega arith
    cost-few met (node {rows = rows} i h bs) = omega (arith, choice-few (length (runs i rows)), costs-few met bs)

    costs-few : {k : ℕ} {gs : List Run} (met : List ℕ) (bs : Branches k gs) → costs_from m met bs + 15 * length gs ≤ 20 * branches_in bs
    costs-few met end = omega arith
    costs-few met (next {g = g} p bs) = omega (arith, at-few met g.cell, cost-few (g.cell ∷ met) p, costs-few met bs)

-- at a state at which no place that may be chosen is agreed each of these has several runs, so that each adds the figure
pub choice-stuck : (m : Measure) (fs : List Bool) (k i : ℕ) (rows : List (List ℕ)) → 0 < length rows → Stuck fs k rows → i < k → May fs i
    → choice m (length (runs i rows)) ≡ m.figure
choice-stuck m fs k i rows h s l y = go (length (runs i rows)) refl
  where
    go : (n : ℕ) → length (runs i rows) ≡ n → choice m n ≡ m.figure
    go zero e = absurd (omega (arith, group-some (root i) (close i) rows h))
    go (suc zero) e = absurd (let g = one-agrees i rows e in s i g.0 l g.1 y)
    go (suc (suc n)) e = let q : leb 2 (suc (suc n)) ≡ true = le-leb 2 (suc (suc n)) (omega arith) in rw q
