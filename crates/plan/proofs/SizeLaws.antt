-- How many cells a plan has (01, "A plan with B branches and L leaves has 3·B + 2 − L cells, at most 6,082").
use mathlib.Core.Path.{◌≡◌, refl}
use mathlib.Core.List.{List}
use Prim.Native.Nat.{ℕ, suc, pred, ◌+◌, ◌*◌, ◌≤◌, ◌<◌}
use native.Mathlib.Omega.{arith}
use native.Mathlib.Nat.{mul-add, suc-mul}
use lib.ListN.{length, length-append}
use Rattle.cell.specs.Cell.{arity}
use Rattle.term.specs.Terms.{root, close}
use Rattle.table.specs.All.{All}
use Rattle.plan.specs.Runs.{Run}
use Rattle.plan.specs.Plans.{Plan, leaf, node, Branches, end, next, write, writes, branches, branches_in, leaves, leaves_in}
use Rattle.plan.proofs.RunsLaws.{Each, Sized, group-sizes, group-some, group-rows, fits-some, runs_fit}
use Rattle.plan.specs.code.Rows.{row_count}
use Rattle.plan.specs.code.Fits.{Fits}
use Rattle.limits.specs.Limits.{most_plan_cells}

-- 01's number of cells
mutual
  unfolding write branches leaves

  pub size : {k : ℕ} {rows : List (List ℕ)} (p : Plan k rows) → length (write p) + leaves p ≡ 3 * branches p + 2
  size leaf = refl
  size (node i h bs) = omega (arith, sizes bs)

  pub sizes : {k : ℕ} {gs : List Run} (bs : Branches k gs) → length (writes bs) + leaves_in bs ≡ 3 * branches_in bs
  sizes end = refl
  sizes (next p bs) = omega (arith, size p, sizes bs, length-append (write p) (writes bs))

-- A plan of rows that fit has a leaf, no more leaves than rows, and no more branches above each leaf than its rows have cells.
mutual
  unfolding branches leaves

  pub bound : {k : ℕ} {rows : List (List ℕ)} (p : Plan k rows) (n : ℕ) → All (Fits n k) rows → 0 < length rows
      → (branches p ≤ n * leaves p) × (leaves p ≤ length rows) × (0 < leaves p)
  bound leaf n f h = (omega arith, h, omega arith)
  bound (node {k} {rows} i l bs) n f h =
      let e : n ≡ suc (pred n) = omega (arith, fits-some n k rows f h) in
      let x = bounds bs (pred n) (length rows) (runs_fit (pred n) k i l rows (rw e at f)) (group-sizes (root i) (close i) rows) in
      (rw e x.0, omega (arith, group-rows (root i) (close i) rows), omega (arith, group-some (root i) (close i) rows h))

  pub bounds : {k : ℕ} {gs : List Run} (bs : Branches k gs) (n m : ℕ) → Each (λ (c : ℕ). Fits n (arity c + k)) gs → Sized m gs
      → (branches_in bs ≤ suc n * leaves_in bs) × (leaves_in bs ≤ row_count gs) × (length gs ≤ leaves_in bs)
  bounds end n m f z = (omega arith, omega arith, omega arith)
  bounds (next p bs) n m f z =
      let x = bound p n f.0 z.0.0 in
      let y = bounds bs n m f.1 z.1 in
      (omega (arith, mul-add (suc n) (leaves p) (leaves_in bs), suc-mul n (leaves p)), omega arith, omega arith)

-- 01, "at most 6,082": SIZE refuses no plan of an accepted table
pub size-bound : {k : ℕ} {rows : List (List ℕ)} (p : Plan k rows) → All (Fits 32 k) rows → 0 < length rows → length rows ≤ 64 → length (write p) ≤ most_plan_cells
size-bound p f h m = let b = bound p 32 f h in omega (arith, size p)
