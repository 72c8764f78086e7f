-- How long a listing is: a line has at most 21 bytes, a header at most 27, and a plan of an accepted table at most 2,048 branches.
use mathlib.Core.Path.{◌≡◌}
use mathlib.Core.List.{List, [], ◌∷◌, ◌++◌}
use Prim.Native.Nat.{ℕ, suc, pred, ◌+◌, ◌-◌, ◌*◌, ◌≤◌, ◌<◌}
use native.Mathlib.Omega.{arith}
use lib.ListN.{length, length-append}
use Rattle.cell.specs.Cell.{arity}
use Rattle.term.specs.Terms.{root, close}
use Rattle.octets.proofs.DecimalLaws.{digits-few}
use Rattle.printing.proofs.LengthLaws.{symbol-few}
use Rattle.table.specs.All.{All}
use Rattle.table.specs.Table.{Table}
use Rattle.plan.specs.Runs.{Run, runs}
use Rattle.plan.specs.Plans.{Plan, leaf, node, Branches, end, next, branches, branches_in, plain, cost}
use Rattle.plan.proofs.RunsLaws.{Each, Sized, group-sizes, group-rows, fits-some, runs_fit, fits-wide}
use Rattle.plan.specs.code.Fits.{Fits}
use Rattle.plan.specs.code.Rows.{row_count}
use Rattle.plan.proofs.PlansLaws.{cost-plain}
use Rattle.plan.proofs.SizeLaws.{bound}
use Rattle.listing.specs.Listing.{line, lines_in, lines_of, header, listing_of}
use Rattle.limits.specs.Limits.{most_branches}

-- a line has at most 21 bytes: `31 31 n65535/4 63-63`
line-few : (depth index c first last : ℕ) → depth < 100 → index < 100 → first < 100 → last < 100 → length (line depth index c first last) ≤ 21
unfolding line
line-few depth index c first last hd hi hf hl =
    simp length-append (omega (arith, digits-few 1 depth hd, digits-few 1 index hi, symbol-few c, digits-few 1 first hf, digits-few 1 last hl))

-- runs of which none is empty, the first beginning at row `first`, within 64 rows
abbrev Within : ℕ → List Run → Type 0
Within first [] = first ≤ 64
Within first (g ∷ gs) = (0 < length g.rows) × Within (first + length g.rows) gs

within-runs : (n first : ℕ) (gs : List Run) → Sized n gs → first + row_count gs ≤ 64 → Within first gs
within-runs n first [] s h = omega arith
within-runs n first (g ∷ gs) s h = (s.0.0, within-runs n (first + length g.rows) gs s.1 (omega arith))

-- a state's runs lie within its rows
within : (i first : ℕ) (rows : List (List ℕ)) → first + length rows ≤ 64 → Within first (runs i rows)
within i first rows h =
    within-runs (length rows) first (runs i rows) (group-sizes (root i) (close i) rows) (omega (arith, group-rows (root i) (close i) rows))

within_first : (first : ℕ) (gs : List Run) → Within first gs → first ≤ 64
within_first first [] w = w
within_first first (g ∷ gs) w = omega (arith, within_first (first + length g.rows) gs w.1)

-- so the lines of a plan have at most 21 bytes for each branch
mutual
  unfolding lines_in branches

  lines-few : {k : ℕ} {rows : List (List ℕ)} (p : Plan k rows) (n depth first : ℕ) → All (Fits n k) rows → 0 < length rows → depth + n ≤ 32
      → first + length rows ≤ 64 → length (lines_in p depth first) ≤ 21 * branches p
  lines-few leaf n depth first f h d l = omega arith
  lines-few (node {k} {rows} i g bs) n depth first f h d l =
      let some = fits-some n k rows f h in
      let e : n ≡ suc (pred n) = omega arith in
      lines-fews bs (pred n) depth i first (runs_fit (pred n) k i g rows (rw e at f)) (within i first rows l)
      (omega (arith, fits-wide n (suc k) rows f h)) (omega arith)

  lines-fews : {k : ℕ} {gs : List Run} (bs : Branches k gs) (n depth index first : ℕ) → Each (λ (c : ℕ). Fits n (arity c + k)) gs → Within first gs
      → index < 100 → depth + suc n ≤ 32 → length (lines_of bs depth index first) ≤ 21 * branches_in bs
  lines-fews end n depth index first f w i d = omega arith
  lines-fews (next {g = g} {gs = gs} p bs) n depth index first f w i d =
      let rows = length g.rows in
      let past = within_first (first + rows) gs w.1 in
      let here = line-few depth index g.cell first (first + rows - 1) (omega arith) i (omega arith) (omega arith) in
      let below = lines-few p n (suc depth) first f.0 w.0 (omega arith) past in
      let beside = lines-fews bs n depth index (first + rows) f.1 w.1 i d in
      omega (
        arith,
        length-append (line depth index g.cell first (first + rows - 1)) (lines_in p (suc depth) first ++ lines_of bs depth index (first + rows)),
        length-append (lines_in p (suc depth) first) (lines_of bs depth index (first + rows)),
      )

-- a header has at most 27 bytes: `rows 64 width 8 edges 2048`
header-few : (rows width cost : ℕ) → rows < 100 → width < 10 → cost < 10000 → length (header rows width cost) ≤ 27
unfolding header
header-few rows width cost hr hw hc =
    simp length-append (omega (arith, digits-few 1 rows hr, digits-few 0 width hw, digits-few 3 cost hc))

-- 01's longest listing
pub listing-few : (T : Table) (p : Plan T.width T.rows) → All (Fits 32 T.width) T.rows → 0 < length T.rows → length T.rows ≤ 64 → T.width ≤ 8
    → length (listing_of T p) ≤ 43035
listing-few T p f h l w =
    let b = bound p 32 f h in
    let c : cost plain p ≤ most_branches = omega (arith, cost-plain p) in
    let first = header-few (length T.rows) T.width (cost plain p) (omega arith) (omega arith) (omega arith) in
    let lines = lines-few p 32 0 0 f h (omega arith) (omega arith) in
    omega (arith, cost-plain p, length-append (header (length T.rows) T.width (cost plain p)) (lines_in p 0 0))
