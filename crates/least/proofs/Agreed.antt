-- All rows agree at a place exactly where there is one run.
use mathlib.Core.Path.{◌≡◌, refl, sym, ap, ◌∙◌}
use mathlib.Core.List.{List, [], ◌∷◌, map}
use Prim.Native.Nat.{ℕ, suc, ◌+◌}
use native.Mathlib.Omega.{arith}
use lib.ListN.{length}
use lib.Seq.{take-length}
use Rattle.term.specs.Terms.{root, close}
use Rattle.plan.specs.Runs.{Run, run, runs}
use Rattle.plan.proofs.RunsLaws.{group-one, group-rows}
use Rattle.least.specs.Least.{Agree}
use Rattle.least.proofs.Parts.{group-parts, part-agree}

-- rows that agree at i are one run there
pub agree-runs : (i c : ℕ) (rows : List (List ℕ)) → Agree i c rows → runs i rows ≡ run c (map (close i) rows) ∷ []
agree-runs i c [] a = absurd (omega (arith, a.some))
agree-runs i c (r ∷ rs) a = group-one (root i) (close i) c r rs a.cells a.fixed

-- one run at a place: its rows agree there on the run's cell, and the run has them all, closed
pub run-agrees : (i : ℕ) (g : Run) (rows : List (List ℕ)) → runs i rows ≡ g ∷ [] → Agree i g.cell rows
run-agrees i g rows e =
    let p = rw e at (group-parts (root i) (close i) rows) in
    let n : length g.rows + 0 ≡ length rows = rw e at (group-rows (root i) (close i) rows) in
    let z : 0 + length g.rows ≡ length rows = omega arith in
    rw (z, take-length rows) at (part-agree i 0 g rows p.0)

pub run_is : (i : ℕ) (g : Run) (rows : List (List ℕ)) → runs i rows ≡ g ∷ [] → g ≡ run g.cell (map (close i) rows)
run_is i g rows e =
    let a = agree-runs i g.cell rows (run-agrees i g rows e) in
    cc

-- where there is not one run, no cell is agreed
pub no_run : (i c : ℕ) (rows : List (List ℕ)) → (length (runs i rows) ≡ 1 → ⊥) → Agree i c rows → ⊥
no_run i c rows n a = n (ap length (agree-runs i c rows a))

-- and where there is one, a cell is
pub one-agrees : (i : ℕ) (rows : List (List ℕ)) → length (runs i rows) ≡ 1 → (c : ℕ) × Agree i c rows
one-agrees i rows e = go (runs i rows) refl
  where
    go : (gs : List Run) → runs i rows ≡ gs → (c : ℕ) × Agree i c rows
    go [] q = let z : ◌≡◌ {A = ℕ} 0 1 = sym (ap length q) ∙ e in absurd (omega arith)
    go (g ∷ []) q = (g.cell, run-agrees i g rows q)
    go (g ∷ (h ∷ gs)) q = let z : suc (suc (length gs)) ≡ 1 = sym (ap length q) ∙ e in absurd (omega arith)
