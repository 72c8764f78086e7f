-- The least cost of a pair of first and last row, from those of pairs in between: what document 001's equation 1 becomes once agreed places are closed.
use mathlib.Core.Path.{◌≡◌, ◌∙◌}
use mathlib.Core.Bool.{Bool}
use mathlib.Core.List.{List, [], ◌∷◌, map}
use Prim.Native.Nat.{ℕ, suc, pred, ◌+◌, ◌-◌, ◌*◌, ◌≤◌, ◌<◌}
use native.Mathlib.Nat.{suc-mul}
use native.Mathlib.Omega.{arith}
use lib.ListN.{length}
use lib.Seq.{slice, length-slice}
use Rattle.cell.specs.Cell.{arity}
use Rattle.term.specs.Terms.{root, close}
use Rattle.plan.specs.Runs.{Run, runs}
use Rattle.plan.specs.Plans.{Measure}
use Rattle.plan.specs.Named.{spread, May}
use Rattle.least.specs.Least.{Stuck}
use Rattle.least.specs.Entries.{between}
use Rattle.least.specs.code.Pairs.{sums}
use Rattle.least.proofs.Best.{Bare, LeastRuns, runs-nil, runs-cons}
use Rattle.least.proofs.Closing.{closes-length, Closing, none-closed, one-closed, closes-least, closes-then, closes-part, confluent}
use Rattle.least.proofs.Parts.{slice-slice, PartOf, Parts, group-parts, part-agree, part-proper}

-- a state with all agreed places closed that may be chosen: what they weigh, and the least cost from there
pub record Solved (m : Measure) (fs : List Bool) (k : ℕ) (rows : List (List ℕ)) (agreed least : ℕ) : Type 0 where
  pub named : List Bool
  pub opens : ℕ
  pub left : List (List ℕ)
  pub closes : Closing m agreed fs k rows named opens left
  pub stuck : Stuck named opens left
  pub counts : Bare m named opens left least

-- together they are the state's least cost
pub solved-least : {m : Measure} {fs : List Bool} {k : ℕ} {rows : List (List ℕ)} {a n : ℕ} → Solved m fs k rows a n → Bare m fs k rows (a + n)
solved-least {n = n} s = closes-least n s.closes s.counts

-- and they tell the least cost of each state on the way: what is closed from there on, and the rest
solved-below : {m : Measure} {fs fs' : List Bool} {k k' : ℕ} {rows rows' : List (List ℕ)} {a n c : ℕ} → Solved m fs k rows a n
    → Closing m c fs k rows fs' k' rows'
    → (v : ℕ) × (c ≤ a) × (c + v ≡ a + n) × Bare m fs' k' rows' v
solved-below {m} {a = a} {n} {c} s x =
    let u = confluent {m = m} s.closes.closes s.stuck x.closes in
    let e : a ≡ c + u.0 = omega (arith, s.closes.weight, x.weight, u.1) in
    (u.0 + n, omega arith, omega arith, closes-least n u.2 s.counts)

-- a run's rows are reached by closing what all the rows agree on and then the run's own cell
pub run-closes : {m : Measure} {fs fs' : List Bool} {w a k : ℕ} {left : List (List ℕ)} (first end : ℕ) (rows : List (List ℕ)) (p o : ℕ) (g : Run)
    → Closing m a fs w (slice first end rows) fs' (suc k) left
    → end ≤ length rows → p ≤ k → May fs' p → PartOf (root p) (close p) left o g
    → Closing m (a + (m.weight g.cell + 0)) fs w (slice (first + o) (first + (o + length g.rows)) rows) (spread p (arity g.cell) fs')
    (arity g.cell + k) g.rows
run-closes {m} {fs' = fs'} {k = k} {left} first end rows p o g x inside h my q =
    let f : List Bool = spread p (arity g.cell) fs' in
    let y₀ : Closing m 0 f (arity g.cell + k) (map (close p) (slice o (o + length g.rows) left)) f (arity g.cell + k) g.rows =
    rw (← q.is) none-closed in
    let b : length (slice first end rows) ≡ end - first = length-slice first end rows inside in
    let l : length left ≡ length (slice first end rows) = closes-length x.closes in
    rw (slice-slice first end o (o + length g.rows) rows (omega (arith, q.inside, q.some))) at
    (closes-then (closes-part o (o + length g.rows) (omega (arith, q.some)) (omega (arith, q.inside)) x)
    (one-closed p g.cell h (part-agree p o g left q) my y₀))

-- what a run of rows j to j' adds to a state whose closed cells weigh a: what its rows agree on beyond that, its own branch with it, and its least cost
abbrev pub adds : (agreed least : ℕ → ℕ → ℕ) → ℕ → ℕ → ℕ → ℕ
adds agreed least a j j' = agreed j j' - a + least j j'

module _ {m : Measure} {fs fs' : List Bool} (w : ℕ) (rows : List (List ℕ)) (agreed least : ℕ → ℕ → ℕ) (first last a k : ℕ) (left : List (List ℕ))
    (inside : last < length rows) (x : Closing m a fs w (between first last rows) fs' (suc k) left) (stuck : Stuck fs' (suc k) left)
    (table : (j j' : ℕ) → first ≤ j → j ≤ j' → j' ≤ last → j' - j < last - first → Solved m fs w (between j j' rows) (agreed j j') (least j j')) where
  -- so the table tells what the run adds
  run_value : (p o : ℕ) (g : Run) → p ≤ k → May fs' p → PartOf (root p) (close p) left o g
      → (v : ℕ) × (m.weight g.cell + v ≡ adds agreed least a (first + o) (pred (first + o + length g.rows)))
      × Bare m (spread p (arity g.cell) fs') (arity g.cell + k) g.rows v
      × (a ≤ agreed (first + o) (pred (first + o + length g.rows)))
  run_value p o g h my q =
      let b : length left ≡ suc last - first = closes-length x.closes ∙ length-slice first (suc last) rows inside in
      let less : length g.rows < length left = part-proper p o g left q (λ ag. stuck p g.cell (omega arith) ag my) in
      let e : first + (o + length g.rows) ≡ suc (pred (first + o + length g.rows)) = omega (arith, q.some) in
      let s = table (first + o) (pred (first + o + length g.rows)) (omega arith) (omega (arith, q.some)) (omega (arith, q.inside, q.some))
      (omega (arith, q.inside, q.some)) in
      let v = solved-below s (rw e at (run-closes first (suc last) rows p o g x inside h my q)) in
      (v.0, omega (arith, v.1, v.2), v.3, omega (arith, v.1))

  runs-least : (p o : ℕ) (gs : List Run) → p ≤ k → May fs' p → Parts (root p) (close p) left o gs
      → LeastRuns m fs' p k gs (sums (adds agreed least a) (first + o) gs)
  runs-least p o [] h my q = runs-nil m fs' p k
  runs-least p o (g ∷ gs) h my q =
      let v = run_value p o g h my q.0 in
      let n : ℕ = sums (adds agreed least a) (first + (o + length g.rows)) gs in
      let e : first + o + length g.rows ≡ first + (o + length g.rows) = omega arith in
      let e' : adds agreed least a (first + o) (pred (first + o + length g.rows)) + n ≡ m.weight g.cell + (v.0 + n) = omega (arith, v.1) in
      rw e (rw (rw e at e') (runs-cons m fs' p k v.0 n g gs v.2 (runs-least p (o + length g.rows) gs h my q.1)))

  -- what the branches of each open place that may be chosen cost at least
  pub place-least : (p : ℕ) → p ≤ k → May fs' p → LeastRuns m fs' p k (runs p left) (sums (adds agreed least a) first (runs p left))
  place-least p h my =
      let e : first + 0 ≡ first = omega arith in
      rw e at (runs-least p 0 (runs p left) h my (group-parts (root p) (close p) left))

  whole_from : (p o : ℕ) (gs : List Run) → p ≤ k → May fs' p → Parts (root p) (close p) left o gs
      → sums (adds agreed least a) (first + o) gs + length gs * a ≡ sums (λ (j j' : ℕ). agreed j j' + least j j') (first + o) gs
  whole_from p o [] h my q = omega arith
  whole_from p o (g ∷ gs) h my q =
      let e : first + o + length g.rows ≡ first + (o + length g.rows) = omega arith in
      let v = run_value p o g h my q.0 in
      let ih = rw (← e) at (whole_from p (o + length g.rows) gs h my q.1) in
      omega (arith, suc-mul (length gs) a, v.3, ih)

  -- the same from what each run's rows cost with nothing closed
  pub place-whole : (p : ℕ) → p ≤ k → May fs' p
      → sums (adds agreed least a) first (runs p left) + length (runs p left) * a ≡ sums (λ (j j' : ℕ). agreed j j' + least j j') first (runs p left)
  place-whole p h my =
      let e : first + 0 ≡ first = omega arith in
      rw e at (whole_from p 0 (runs p left) h my (group-parts (root p) (close p) left))
