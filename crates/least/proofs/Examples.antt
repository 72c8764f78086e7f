-- 01, "Errors that look right": taking the place with fewest runs, of 01's six rows without "the two doubled ones" (02, W-208). The first
-- place has 2 runs and leads to 14, the second has 3 and leads to 13. (The examples that 01 marks P are one table in the crate `examples`.)
use Prim.Native.Nat.{ℕ, ◌≤◌}
use mathlib.Core.Path.{◌≡◌, refl}
use mathlib.Core.List.{List, [], ◌∷◌, map}
use native.Mathlib.Omega.{arith}
use lib.ListN.{length}
use Rattle.cell.specs.Cell.{name_cell, values_at, arity, is_var}
use Rattle.term.specs.Terms.{Terms, none, more, root, close}
use Rattle.table.specs.All.{All}
use Rattle.table.specs.Table.{count}
use Rattle.table.proofs.AllLaws.{all-each}
use Rattle.plan.specs.Runs.{agree, runs}
use Rattle.plan.specs.Plans.{plain}
use Rattle.plan.specs.code.Fits.{Fits}
use Rattle.least.specs.code.Best.{argmin, through, total, best}
use Rattle.least.specs.Later.{later_in}
use Rattle.least.specs.Least.{Least}
use Rattle.least.proofs.Best.{best-least, least-later}
use Rattle.least.proofs.Weighed.{plain-light}
use Rattle.least.proofs.Builder.{below, place, run_cells, plan_cells, Builds, plan-built}

abbrev a : ℕ
a = name_cell 0 1

abbrev b : ℕ
b = name_cell 0 2

abbrev x : ℕ
x = name_cell 0 24

abbrev y : ℕ
y = name_cell 0 25

abbrev z : ℕ
z = name_cell 0 26

unfoldable pub four : List (List ℕ)
four = (a ∷ x ∷ x ∷ x ∷ []) ∷ (a ∷ y ∷ y ∷ y ∷ []) ∷ (b ∷ y ∷ y ∷ y ∷ []) ∷ (b ∷ z ∷ z ∷ z ∷ []) ∷ []

abbrev places : List ℕ
places = 0 ∷ 1 ∷ 2 ∷ 3 ∷ []

-- the runs of each place, and the least cost of a plan that looks at it first
pub runs-at : map (λ (i : ℕ). length (runs i four)) places ≡ 2 ∷ 3 ∷ 3 ∷ 3 ∷ []
unfolding four root close agree arity values_at is_var
runs-at = refl

pub leads-to : map (through plain four (below plain 31 [] 3 four)) places ≡ 14 ∷ 13 ∷ 13 ∷ 13 ∷ []
unfolding four best total argmin root close agree arity values_at is_var
leads-to = refl

-- each row is four names without arguments
fits : All (Fits 32 4) four
unfolding four arity values_at
fits =
    let l : 4 ≤ 32 = omega arith in (
      (more (more (more (more none))), l),
      ((more (more (more (more none))), l), ((more (more (more (more none))), l), ((more (more (more (more none))), l), tt))),
    )

-- so 13 is the least cost, and this the builder's plan
pub least : Least plain [] 4 four 13
unfolding four best total argmin root close agree arity values_at is_var later_in count
least = least-later plain-light (all-each (Fits 32 4) (Terms 4) (λ r x. x.0) four fits) (best-least plain 32 [] 4 four (omega arith) fits (omega arith))

pub builds : Builds plain [] 4 four (1 ∷ 3 ∷ x ∷ 0 ∷ 1 ∷ a ∷ 0 ∷ 1 ∷ x ∷ 0 ∷ 1 ∷ x ∷ 1 ∷ y ∷ 1 ∷ 1 ∷ y ∷ 1 ∷ 1 ∷ y ∷ 0 ∷ 2 ∷ a ∷ 1 ∷ b ∷ 1 ∷ z ∷ 0 ∷ 1
    ∷ b ∷ 0 ∷ 1 ∷ z ∷ 0 ∷ 1 ∷ z ∷ 1 ∷ [])
unfolding four plan_cells place run_cells best total argmin root close agree arity values_at is_var
builds = plan-built plain plain-light 32 [] 4 four (omega arith) fits (omega arith)
