-- A scan changes no run left of where it is.
use mathlib.Core.Path.{◌≡◌, refl, sym, ap, ◌∙◌}
use mathlib.Core.Bool.{Bool, true, false, cond, ◌||◌}
use mathlib.Core.List.{List, [], ◌∷◌, map}
use Prim.Native.Nat.{ℕ, zero, suc, pred, ◌+◌, ◌≤◌, ◌<◌}
use native.Mathlib.Omega.{arith}
use lib.ListN.{length, length-map}
use Rattle.cell.specs.Cell.{arity}
use Rattle.term.specs.Terms.{root, close}
use Rattle.term.proofs.PlaceLaws.{close-close, root_before}
use Rattle.table.specs.All.{All}
use Rattle.plan.specs.Runs.{Run, runs}
use Rattle.plan.specs.Plans.{Measure}
use Rattle.plan.specs.Named.{flag, spread}
use Rattle.plan.proofs.RunsLaws.{map_runs, group-map}
use Rattle.least.proofs.Agreed.{run_is}
use Rattle.least.specs.code.Pairs.{Scan, found, plus, one_run, scan, closed, sums}

-- how many rows each run has
abbrev pub sizes : List Run → List ℕ
sizes gs = map (λ (g : Run). length g.rows) gs

-- a sum over runs goes by their sizes
pub sums-sizes : (W : ℕ → ℕ → ℕ) (j : ℕ) (gs hs : List Run) → sizes gs ≡ sizes hs → sums W j gs ≡ sums W j hs
sums-sizes W j [] [] e = refl
sums-sizes W j [] (h ∷ hs) e = let z : ◌≡◌ {A = ℕ} 0 1 = cc in absurd (omega arith)
sums-sizes W j (g ∷ gs) [] e = let z : ◌≡◌ {A = ℕ} 0 1 = cc in absurd (omega arith)
sums-sizes W j (g ∷ gs) (h ∷ hs) e =
    let l : length g.rows ≡ length h.rows = cc in
    let t : sizes gs ≡ sizes hs = cc in
    rw (l, sums-sizes W (j + length h.rows) gs hs t)

pub length-sizes : (gs hs : List Run) → sizes gs ≡ sizes hs → length gs ≡ length hs
length-sizes gs hs e = sym (length-map gs (λ (g : Run). length g.rows)) ∙ ap length e ∙ length-map hs (λ (g : Run). length g.rows)

sizes-map_runs : (f : ℕ → List ℕ → List ℕ) (gs : List Run) → sizes (map_runs f gs) ≡ sizes gs
sizes-map_runs f [] = refl
sizes-map_runs f (g ∷ gs) = rw (length-map g.rows (f g.cell), sizes-map_runs f gs)

all-unit : (rows : List (List ℕ)) → All (λ (r : List ℕ). Unit {0}) rows
all-unit [] = tt
all-unit (r ∷ rs) = (tt, all-unit rs)

-- closing a place leaves the runs left of it as long as they are
sizes-close : (j x : ℕ) (rows : List (List ℕ)) → j ≤ x → sizes (runs j (map (close (suc x)) rows)) ≡ sizes (runs j rows)
sizes-close j x rows h =
    ap sizes
    (group-map (λ (r : List ℕ). Unit {0}) (root j) (root j) (close j) (close j) (close (suc x)) (λ (d : ℕ). close (arity d + x))
    (λ r u. (root_before j x r h, sym (close-close j x r h))) rows (all-unit rows))
    ∙ sizes-map_runs (λ (d : ℕ). close (arity d + x)) (runs j rows)

module _ (m : Measure) (every : Bool) where
  pub scan-sizes : (n : ℕ) (fs : List Bool) (i r : ℕ) (rows : List (List ℕ)) (j : ℕ) → j < i
      → sizes (runs j (scan m every n fs i r rows).left) ≡ sizes (runs j rows)
  unfolding scan
  scan-sizes zero fs i r rows j h = refl
  scan-sizes (suc n) fs i zero rows j h = refl
  scan-sizes (suc n) fs i (suc r) rows j h = by (every || flag i fs) (λ fs i r rows. scan-sizes n fs i r rows j)
    where
      Below : Type 0
      Below = (fs : List Bool) (i r : ℕ) (rows : List (List ℕ)) → j < i → sizes (runs j (scan m every n fs i r rows).left) ≡ sizes (runs j rows)

      go : (gs : List Run) → runs i rows ≡ gs → Below
          → sizes (runs j (one_run gs (λ (g : Run). plus (m.weight g.cell)
          (scan m every n (spread i (arity g.cell) fs) i (arity g.cell + r) g.rows))
          (scan m every n fs (suc i) r rows)).left) ≡ sizes (runs j rows)
      go [] e ih = ih fs (suc i) r rows (omega arith)
      go (g ∷ []) e ih =
          let ei : i ≡ suc (pred i) = omega arith in
          let q : g.rows ≡ map (close i) rows = ap (λ (g : Run). g.rows) (run_is i g rows e) in
          ih (spread i (arity g.cell) fs) i (arity g.cell + r) g.rows h ∙ rw (q, ei) (sizes-close j (pred i) rows (omega arith))
      go (g ∷ (k ∷ gs)) e ih = ih fs (suc i) r rows (omega arith)

      by : (b : Bool) → Below
          → sizes (runs j (cond b (one_run (runs i rows)
          (λ (g : Run). plus (m.weight g.cell) (scan m every n (spread i (arity g.cell) fs) i (arity g.cell + r) g.rows))
          (scan m every n fs (suc i) r rows)) (scan m every n fs (suc i) r rows)).left) ≡ sizes (runs j rows)
      by true ih = go (runs i rows) refl ih
      by false ih = ih fs (suc i) r rows (omega arith)

-- WHERE NO COLUMN IS NAMED, one scan closes every agreed place, and no flag stands.

module _ (m : Measure) where
  pub scan-plain : (every : Bool) (n i r : ℕ) (rows : List (List ℕ)) → (scan m every n [] i r rows).named ≡ []
  unfolding scan
  scan-plain every zero i r rows = refl
  scan-plain every (suc n) i zero rows = refl
  scan-plain false (suc n) i (suc r) rows = scan-plain false n (suc i) r rows
  scan-plain true (suc n) i (suc r) rows = go (runs i rows) (λ i r rows. scan-plain true n i r rows)
    where
      go : (gs : List Run) → ((i r : ℕ) (rows : List (List ℕ)) → (scan m true n [] i r rows).named ≡ [])
          → (one_run gs (λ (g : Run). plus (m.weight g.cell) (scan m true n [] i (arity g.cell + r) g.rows))
          (scan m true n [] (suc i) r rows)).named ≡ []
      go [] ih = ih (suc i) r rows
      go (g ∷ []) ih = ih i (arity g.cell + r) g.rows
      go (g ∷ (h ∷ gs)) ih = ih (suc i) r rows

  -- the first of the two scans finds nothing
  first-scan : (n i r : ℕ) (rows : List (List ℕ)) → r ≤ n → scan m false n [] i r rows ≡ found 0 [] (i + r) rows
  unfolding scan
  first-scan zero i zero rows h = let e : i + 0 ≡ i = omega arith in rw e
  first-scan zero i (suc r) rows h = absurd (omega arith)
  first-scan (suc n) i zero rows h = let e : i + 0 ≡ i = omega arith in rw e
  first-scan (suc n) i (suc r) rows h = let e : i + suc r ≡ suc i + r = omega arith in rw e (first-scan n (suc i) r rows (omega arith))

  pub closed-plain : (n k : ℕ) (rows : List (List ℕ)) → k ≤ n → closed m n [] k rows ≡ scan m true n [] 0 k rows
  unfolding closed
  closed-plain n k rows h =
      let e : 0 + k ≡ k = omega arith in
      rw (first-scan n 0 k rows h, e) (same (scan m true n [] 0 k rows))
    where
      same : (s : Scan) → plus 0 s ≡ s
      same s = let z : 0 + s.agreed ≡ s.agreed = omega arith in rw z
