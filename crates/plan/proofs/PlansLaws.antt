-- Plans: what is written determines the plan and where it ends. So all that is defined by a plan, as its branches and its marks, is determined by the cells;
-- and 01's cost is the number of branches.
use mathlib.Core.Path.{◌≡◌, refl, ap, ap₂, path_j}
use mathlib.Core.Bool.{Bool, true, false, cond}
use mathlib.Core.List.{List, [], ◌∷◌, ◌++◌, append_assoc}
use Prim.Native.Nat.{ℕ, suc, ◌≤◌, ◌<◌}
use native.Mathlib.Bridge.{le_prop}
use native.Mathlib.Omega.{arith}
use lib.ListN.{length}
use lib.Dec.{leb}
use Rattle.plan.specs.Runs.{Run, runs}
use Rattle.plan.specs.Plans.{Plan, leaf, node, Branches, end, next, write, writes, branches, branches_in, plain, cost, costs}

-- two inner states whose indices are equal, and whose branches are equal once they stand at one index
node-one : {k : ℕ} {rows : List (List ℕ)} {i : ℕ} (h : i ≤ k) (bs : Branches k (runs i rows)) (xs ys : List ℕ)
    → ((cs : Branches k (runs i rows)) → writes bs ++ xs ≡ writes cs ++ ys → (bs ≡ cs) × (xs ≡ ys))
    → {j : ℕ} → i ≡ j → (l : j ≤ k) (cs : Branches k (runs j rows)) → writes bs ++ xs ≡ writes cs ++ ys
    → (◌≡◌ {A = Plan (suc k) rows} (node i h bs) (node j l cs)) × (xs ≡ ys)
node-one {k} {rows} {i} h bs xs ys same e =
    path_j
    (λ (j : ℕ) (q : i ≡ j). (l : j ≤ k) (cs : Branches k (runs j rows)) → writes bs ++ xs ≡ writes cs ++ ys
    → (◌≡◌ {A = Plan (suc k) rows} (node i h bs) (node j l cs)) × (xs ≡ ys))
    (λ l cs w. let d = same cs w in (ap₂ (λ (u : i ≤ k) (v : Branches k (runs i rows)). node i u v) (le_prop h l) d.0, d.1))
    e

-- the cells tell the plan and where it ends
mutual
  unfolding write

  pub plan-one : {k : ℕ} {rows : List (List ℕ)} (p q : Plan k rows) (xs ys : List ℕ) → write p ++ xs ≡ write q ++ ys → (p ≡ q) × (xs ≡ ys)
  plan-one leaf leaf xs ys w = (refl, cc)
  plan-one (node i h bs) (node j l cs) xs ys w =
      let ij : i ≡ j = cc in
      let u : writes bs ++ xs ≡ writes cs ++ ys = cc in
      node-one h bs xs ys (λ ds v. branches-one bs ds xs ys v) ij l cs u

  pub branches-one : {k : ℕ} {gs : List Run} (bs cs : Branches k gs) (xs ys : List ℕ) → writes bs ++ xs ≡ writes cs ++ ys → (bs ≡ cs) × (xs ≡ ys)
  branches-one end end xs ys w = (refl, w)
  branches-one (next p bs) (next q cs) xs ys w =
      let w₁ : (write p ++ writes bs) ++ xs ≡ (write q ++ writes cs) ++ ys = cc in
      let w₂ : write p ++ (writes bs ++ xs) ≡ write q ++ (writes cs ++ ys) = simp append_assoc at w₁ in
      let d = plan-one p q (writes bs ++ xs) (writes cs ++ ys) w₂ in
      let ds = branches-one bs cs xs ys d.1 in
      (ap₂ next d.0 ds.0, ds.1)

-- at most one plan of a state writes given cells
pub write-one : {k : ℕ} {rows : List (List ℕ)} (p q : Plan k rows) → write p ≡ write q → p ≡ q
write-one p q e = (plan-one p q [] [] (ap (λ (l : List ℕ). l ++ []) e)).0

-- a state with no open place is a leaf
pub leaf-cells : {k : ℕ} {rows : List (List ℕ)} (p : Plan k rows) → k ≡ 0 → write p ≡ length rows ∷ []
unfolding write
leaf-cells leaf e = refl
leaf-cells (node i h bs) e = absurd (omega arith)

-- so whatever is defined by a plan is the same of two plans that write the same cells for the same state
pub plan-tells : {A : Type 0} (f : (k : ℕ) (rows : List (List ℕ)) → Plan k rows → A) {k k' : ℕ} {rows rows' : List (List ℕ)} → k ≡ k' → rows ≡ rows'
    → (p : Plan k rows) (q : Plan k' rows') (xs ys : List ℕ) → write p ++ xs ≡ write q ++ ys → (f k rows p ≡ f k' rows' q) × (xs ≡ ys)
plan-tells f {k} {k'} {rows} {rows'} ek er p =
    path_j
    (λ (k' : ℕ) (e : k ≡ k'). (q : Plan k' rows') (xs ys : List ℕ) → write p ++ xs ≡ write q ++ ys → (f k rows p ≡ f k' rows' q) × (xs ≡ ys))
    (path_j
    (λ (rows' : List (List ℕ)) (e : rows ≡ rows'). (q : Plan k rows') (xs ys : List ℕ) → write p ++ xs ≡ write q ++ ys → (f k rows p ≡ f k rows' q) × (xs ≡ ys))
    (λ q xs ys w. let d = plan-one p q xs ys w in (ap (f k rows) d.0, d.1))
    er)
    ek

-- 01, "A plan's cost is its number of branches"
choice-plain : (b : Bool) → ◌≡◌ {A = ℕ} (cond b 0 0) 0
choice-plain true = refl
choice-plain false = refl

mutual
  unfolding cost branches

  pub cost-plain : {k : ℕ} {rows : List (List ℕ)} (p : Plan k rows) → cost plain p ≡ branches p
  cost-plain leaf = refl
  cost-plain (node {rows = rows} i h bs) = omega (arith, choice-plain (leb 2 (length (runs i rows))), costs-plain bs)

  pub costs-plain : {k : ℕ} {gs : List Run} (bs : Branches k gs) → costs plain bs ≡ branches_in bs
  costs-plain end = refl
  costs-plain (next p bs) = omega (arith, cost-plain p, costs-plain bs)

-- a plan has cells
pub write-some : {k : ℕ} {rows : List (List ℕ)} (p : Plan k rows) → 0 < length (write p)
unfolding write
write-some leaf = omega arith
write-some (node i h bs) = omega arith
