-- What is worked out for a pair of first and last row, as functions: what its rows agree on, and its cheapest place, by what runs of rows
-- cost.
use Rattle.std.specs.Prelude.{ℕ, zero, suc, pred, ◌+◌, ◌-◌, ◌*◌, min, Bool, true, false, cond, ◌||◌, List, [], ◌∷◌, eqb, length, get_or}
use Rattle.cell.specs.Cell.{arity}
use Rattle.plan.specs.Runs.{Run, runs}
use Rattle.plan.specs.Plans.{Measure, choice}
use Rattle.plan.specs.Named.{flag, spread, any_named, may}
use Rattle.least.specs.Entries.{between}
use Rattle.least.specs.code.Best.{best, first_over, least_over}
use Rattle.least.specs.Later.{later_in, laters_in}
use Rattle.limits.specs.Limits.{most_row_cells}

-- what a scan of the open places has found: what the closed cells weigh, the open places left with their flags, and the rows
pub record Scan : Type 0 where
  pub agreed : ℕ
  pub named : List Bool
  pub opens : ℕ
  pub left : List (List ℕ)

abbrev pub found : ℕ → List Bool → ℕ → List (List ℕ) → Scan
found a fs k rows = record { agreed = a; named = fs; opens = k; left = rows }

abbrev pub plus : ℕ → Scan → Scan
plus w s = found (w + s.agreed) s.named s.opens s.left

-- by whether there is one run
abbrev pub one_run : {A : Type 0} → List Run → (Run → A) → A → A
one_run [] f x = x
one_run (g ∷ []) f x = f g
one_run (g ∷ (h ∷ gs)) f x = x

-- from place i on, where r places are still to be looked at: every agreed place is closed, or only those inside a named column. The first
-- number bounds the cells still to be looked at
unfoldable pub scan : Measure → (every : Bool) → ℕ → List Bool → ℕ → ℕ → List (List ℕ) → Scan
scan m every zero fs i r rows = found 0 fs i rows
scan m every (suc n) fs i zero rows = found 0 fs i rows
scan m every (suc n) fs i (suc r) rows =
    let next : Scan = scan m every n fs (suc i) r rows in
    cond (every || flag i fs)
    (one_run (runs i rows) (λ (g : Run). plus (m.weight g.cell) (scan m every n (spread i (arity g.cell) fs) i (arity g.cell + r) g.rows)) next)
    next

-- a state with all agreed places closed that may be chosen: first those inside named columns; where none of these stays open, the others
unfoldable pub closed : Measure → ℕ → List Bool → ℕ → List (List ℕ) → Scan
closed m n fs k rows =
    let s : Scan = scan m false n fs 0 k rows in
    cond (any_named s.named) s (plus s.agreed (scan m true n s.named 0 s.opens s.left))

-- the sum over some runs, the first of them from row j on, of a value for the run's first and last row
abbrev pub sums : (ℕ → ℕ → ℕ) → ℕ → List Run → ℕ
sums value j [] = 0
sums value j (g ∷ gs) = value j (pred (j + length g.rows)) + sums value (j + length g.rows) gs

-- rows of a table of width w, of at most n cells each
module _ (m : Measure) (n : ℕ) (fs : List Bool) (w : ℕ) (rows : List (List ℕ)) where
  -- the rows of a pair with all closed that they agree on and that may be chosen
  unfoldable pub closed_of : ℕ → ℕ → Scan
  closed_of first last = closed m n fs w (between first last rows)

  -- what is closed weighs so much
  abbrev pub weighed_of : ℕ → ℕ → ℕ
  weighed_of first last = (closed_of first last).agreed

  -- a single row agrees with itself everywhere, so its later meetings are in what it agrees on; several rows agree on no variable
  unfoldable pub later_of : ℕ → ℕ → ℕ
  later_of first last = cond (eqb first last) (later_in m [] (get_or rows first [])) 0

  -- and costs so much
  abbrev pub agreed_of : ℕ → ℕ → ℕ
  agreed_of first last = weighed_of first last + later_of first last

-- no pair of a table costs as much. Of any other number that stands at a pair no more is taken, so that sums fit
abbrev pub limit : ℕ
limit = 65535

module _ (m : Measure) (fs : List Bool) (w : ℕ) (rows : List (List ℕ)) where
  -- what the rows from the first to the last cost at least, with no place closed. A row has at most 32 cells
  abbrev pub whole_of : ℕ → ℕ → ℕ
  whole_of first last = best m most_row_cells fs w (between first last rows) + laters_in m [] (between first last rows)

  -- what a place of the pair's closed state costs, where a run of rows costs N with nothing closed
  abbrev pub price_by : (ℕ → ℕ → ℕ) → ℕ → ℕ → ℕ → ℕ
  price_by N first last p =
      choice m (length (runs p (closed_of m most_row_cells fs w rows first last).left))
      + (sums N first (runs p (closed_of m most_row_cells fs w rows first last).left)
      - length (runs p (closed_of m most_row_cells fs w rows first last).left) * agreed_of m most_row_cells fs w rows first last)

  -- the least over its places, the first place that costs so much, and what the pair costs with nothing closed
  abbrev pub least_by : (ℕ → ℕ → ℕ) → ℕ → ℕ → ℕ
  least_by N first last =
      least_over (may (closed_of m most_row_cells fs w rows first last).named) (closed_of m most_row_cells fs w rows first last).opens
      (price_by N first last)

  abbrev pub place_by : (ℕ → ℕ → ℕ) → ℕ → ℕ → ℕ
  place_by N first last =
      first_over (may (closed_of m most_row_cells fs w rows first last).named) (closed_of m most_row_cells fs w rows first last).opens
      (price_by N first last)

  abbrev pub whole_by : (ℕ → ℕ → ℕ) → ℕ → ℕ → ℕ
  whole_by N first last = min (agreed_of m most_row_cells fs w rows first last + least_by N first last) limit
