-- A state's least cost: it is one number, and but for later meetings it is made of those of the states below; each state of a table has one.
use mathlib.Core.Path.{◌≡◌, refl}
use mathlib.Core.Bool.{Bool}
use mathlib.Core.List.{List, [], ◌∷◌}
use Prim.Native.Nat.{ℕ, zero, suc, ◌+◌, ◌≤◌, ◌<◌}
use native.Mathlib.Omega.{arith}
use lib.ListN.{length}
use Rattle.cell.specs.Cell.{arity}
use Rattle.term.specs.Terms.{Terms, root, close}
use Rattle.table.specs.All.{All}
use Rattle.plan.specs.Runs.{Run, runs}
use Rattle.plan.specs.Plans.{Plan, leaf, node, Branches, end, next, Measure, cost, costs}
use Rattle.plan.specs.Named.{spread, May, may, NamedFirst, NamedFirsts}
use Rattle.plan.proofs.NamedLaws.{may-is, is-may, Some, some, some-may, spread-length}
use Rattle.plan.proofs.RunsLaws.{Each, Sized, group-sizes, fits-some, runs_fit}
use Rattle.plan.specs.code.Fits.{Fits}
use Rattle.least.specs.code.Best.{argmin, minimum, through, total, best}
use Rattle.least.specs.Later.{laters_in}
use Rattle.least.specs.code.Low.{Light}
use Rattle.least.specs.Least.{Least}
use Rattle.least.proofs.Later.{cost-from}
use Rattle.least.proofs.Minimum.{First, argmin-first}

-- two least costs of a state are one
pub least-one : {m : Measure} {fs : List Bool} {k : ℕ} {rows : List (List ℕ)} {n n' : ℕ} → Least m fs k rows n → Least m fs k rows n' → n ≡ n'
least-one l r = omega (arith, l.none-less r.plan r.kind, l.costs-it, r.none-less l.plan l.kind, r.costs-it)

-- The least that the cells of a plan of the kind weigh, later meetings as first ones. These differ from the costs by a number of the rows
-- (proofs/Later), and all that is worked out of least costs is worked out of them
pub record Bare (m : Measure) (fs : List Bool) (k : ℕ) (rows : List (List ℕ)) (n : ℕ) : Type 0 where
  pub plan : Plan k rows
  pub kind : NamedFirst fs plan
  pub costs-it : cost m plan ≡ n
  pub none-less : (q : Plan k rows) → NamedFirst fs q → n ≤ cost m q

pub bare-one : {m : Measure} {fs : List Bool} {k : ℕ} {rows : List (List ℕ)} {n n' : ℕ} → Bare m fs k rows n → Bare m fs k rows n' → n ≡ n'
bare-one l r = omega (arith, l.none-less r.plan r.kind, l.costs-it, r.none-less l.plan l.kind, r.costs-it)

-- the least cost, with what later meetings cost
abbrev pub least-later : {m : Measure} {fs : List Bool} {k : ℕ} {rows : List (List ℕ)} {n : ℕ} → Light m → All (Terms k) rows → Bare m fs k rows n
    → Least m fs k rows (n + laters_in m [] rows)
least-later light t l = record {
  plan = l.plan;
  kind = l.kind;
  costs-it = omega (arith, cost-from light l.plan [] t, l.costs-it);
  none-less = λ q s. omega (arith, cost-from light q [] t, l.none-less q s);
}

-- the least that some branches at a place weigh together
pub record LeastRuns (m : Measure) (fs : List Bool) (i k : ℕ) (gs : List Run) (n : ℕ) : Type 0 where
  pub branches : Branches k gs
  pub kind : NamedFirsts fs i branches
  pub costs-it : costs m branches ≡ n
  pub none-less : (bs : Branches k gs) → NamedFirsts fs i bs → n ≤ costs m bs

module _ (m : Measure) (fs : List Bool) where
  pub leaf-least : (rows : List (List ℕ)) → Bare m fs 0 rows 0
  unfolding cost NamedFirst
  leaf-least rows = record { plan = leaf; kind = tt; costs-it = refl; none-less = λ q s. omega arith }

  pub runs-nil : (i k : ℕ) → LeastRuns m fs i k [] 0
  unfolding costs NamedFirsts
  runs-nil i k = record { branches = end; kind = tt; costs-it = refl; none-less = λ bs s. omega arith }

  pub runs-cons : (i k v n : ℕ) (g : Run) (gs : List Run) → Bare m (spread i (arity g.cell) fs) (arity g.cell + k) g.rows v → LeastRuns m fs i k gs n
      → LeastRuns m fs i k (g ∷ gs) (m.weight g.cell + (v + n))
  unfolding costs NamedFirsts
  runs-cons i k v n g gs l ls = record {
    branches = next l.plan ls.branches;
    kind = (l.kind, ls.kind);
    costs-it = omega (arith, l.costs-it, ls.costs-it);
    none-less = λ bs s. less bs s;
  }
    where
      less : (bs : Branches k (g ∷ gs)) → NamedFirsts fs i bs → m.weight g.cell + (v + n) ≤ costs m bs
      less (next p bs) s = omega (arith, l.none-less p s.0, ls.none-less bs s.1)

  -- a state's least cost is the least over the places that may be chosen
  pub node-least : (k : ℕ) (rows : List (List ℕ)) (F : ℕ → ℕ) → length fs ≤ suc k
      → ((i : ℕ) → i ≤ k → May fs i → LeastRuns m fs i k (runs i rows) (F i))
      → Bare m fs (suc k) rows (minimum (may fs) k (through m rows F))
  unfolding cost NamedFirst
  node-least k rows F few f = go (some-may fs k few)
    where
      go : Some fs (suc k) → Bare m fs (suc k) rows (minimum (may fs) k (through m rows F))
      go (some j l y) =
          let a = argmin-first (may fs) (through m rows F) k j (omega arith) y in
          let i : ℕ = argmin (may fs) k (through m rows F) in
          let y = may-is fs i a.chosen in
          let b = f i a.within y in
          record {
            plan = node i a.within b.branches;
            kind = (y, b.kind);
            costs-it = omega (arith, b.costs-it);
            none-less = λ q s. less a q s;
          }
        where
          less : First (may fs) k (through m rows F) (argmin (may fs) k (through m rows F)) → (q : Plan (suc k) rows) → NamedFirst fs q
              → minimum (may fs) k (through m rows F) ≤ cost m q
          less a (node i h bs) s = omega (arith, a.least i h (is-may fs i s.0), (f i h s.0).none-less bs s.1)

module _ (m : Measure) where
  -- the least cost of each state whose rows have at most n cells
  abbrev pub Bests : ℕ → Type 0
  Bests n = (fs : List Bool) (k : ℕ) (rows : List (List ℕ)) → length fs ≤ k → All (Fits n k) rows → 0 < length rows → Bare m fs k rows (best m n fs k rows)

  pub best-runs : (n : ℕ) → Bests n → (fs : List Bool) (i k : ℕ) → length fs ≤ suc k → i ≤ k
      → (gs : List Run) → Each (λ (c : ℕ). Fits n (arity c + k)) gs → (s : ℕ) → Sized s gs
      → LeastRuns m fs i k gs (total m (λ c g. best m n (spread i (arity c) fs) (arity c + k) g) gs)
  unfolding total
  best-runs n ih fs i k few l [] a s b = runs-nil m fs i k
  best-runs n ih fs i k few l (g ∷ gs) a s b =
      let c : ℕ = arity g.cell in
      runs-cons m fs i k (best m n (spread i c fs) (c + k) g.rows) (total m (λ c g. best m n (spread i (arity c) fs) (arity c + k) g) gs) g gs
      (ih (spread i c fs) (c + k) g.rows (spread-length i c k fs few l) a.0 b.0.0) (best-runs n ih fs i k few l gs a.1 s b.1)

  -- each state with a row, whose rows are terms of at most n cells, has a least cost
  pub best-least : (n : ℕ) → Bests n
  unfolding best
  best-least zero fs zero rows few a h = leaf-least m fs rows
  best-least (suc n) fs zero rows few a h = leaf-least m fs rows
  best-least zero fs (suc k) rows few a h = absurd (omega (arith, fits-some 0 k rows a h))
  best-least (suc n) fs (suc k) rows few a h =
      node-least m fs k rows (λ (i : ℕ). total m (λ c g. best m n (spread i (arity c) fs) (arity c + k) g) (runs i rows)) few
      (λ i l y. best-runs n (best-least n) fs i k few l (runs i rows) (runs_fit n k i l rows a) (length rows) (group-sizes (root i) (close i) rows))
