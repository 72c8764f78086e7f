-- The marks of all cells, from the last to the first: where the term there ends, and what the cell weighs.
use mathlib.Core.Path.{◌≡◌, refl, ap, ◌∙◌}
use mathlib.Core.Logic.{◌≢◌}
use mathlib.Core.Bool.{Bool, true, false}
use mathlib.Core.List.{List, ◌∷◌}
use Prim.Native.Nat.{ℕ, suc, ◌+◌, ◌-◌, ◌*◌, ◌/◌, ◌%◌, ◌≤◌, ◌<◌}
use native.Mathlib.Nat.{add-zero}
use native.Mathlib.Omega.{arith}
use lib.ListN.{length, get_or, set, drop, length-set, length-drop}
use lib.Seq.{get_or-set_same, get_or-set_other, drop-cons}
use lib.Dec.{eqb}
use borrow.Author.Tests.{eqb-true, eqb-false}
use Rattle.cell.specs.Cell.{arity}
use Rattle.term.specs.Terms.{front}
use Rattle.term.proofs.TermsLaws.{front-zero}
use Rattle.plan.specs.Plans.{Measure}
use Rattle.least.proofs.Suffixes.{front-short, front-back-length, back-drop}
use Rattle.paircosts.specs.code.Notes.{past_of, MarkOf, MarkedFrom}
use Rattle.limits.specs.Limits.{most_table_cells}

-- no term, and no cell left; one term more, and the first cell of a term
pub past-none : (cells : List ℕ) (k j : ℕ) → k ≤ 0 → past_of cells k j ≡ j
past-none cells k j h = let z : k ≡ 0 = omega arith in rw z (omega (arith, ap length (front-zero (drop j cells))))

pub past-out : (cells : List ℕ) (k j : ℕ) → length cells ≤ j → past_of cells k j ≡ j
past-out cells k j h = omega (arith, front-short k (drop j cells), length-drop j cells)

pub past_more : (cells : List ℕ) (k j : ℕ) → 0 < k → past_of cells (k - 1) (past_of cells 1 j) ≡ past_of cells k j
past_more cells k j h =
    let s : 1 + (k - 1) ≡ k = omega arith in
    let f = rw (s, back-drop j cells) at (front-back-length 1 (k - 1) (drop j cells)) in
    omega (arith, f)

pub past-cell : (cells : List ℕ) (j : ℕ) → j < length cells → past_of cells (arity (get_or cells j 0)) (j + 1) ≡ past_of cells 1 j
unfolding front
past-cell cells j h =
    let q : j + 1 ≡ suc j = omega arith in
    let d : drop j cells ≡ get_or cells j 0 ∷ drop (j + 1) cells = drop-cons cells j 0 h ∙ rw q in
    let z : front 1 (drop j cells) ≡ get_or cells j 0 ∷ front (arity (get_or cells j 0)) (drop (j + 1) cells) = rw (d, add-zero) in
    omega (arith, ap length z)

pub past-in : (cells : List ℕ) (k j : ℕ) → j ≤ length cells → past_of cells k j ≤ length cells
past-in cells k j h = omega (arith, front-short k (drop j cells), length-drop j cells)

-- a mark is read back
pub mark-is : (m : Measure) (cells : List ℕ) (j end weight : ℕ) → end ≡ past_of cells 1 j → weight ≡ m.weight (get_or cells j 0) → weight ≤ 5
    → MarkOf m cells j (8 * end + weight)
mark-is m cells j end weight a w h =
    let e : (8 * end + weight) / 8 ≡ end = omega arith in
    let f : (8 * end + weight) % 8 ≡ weight = omega arith in
    record { end = e ∙ a; weight = f ∙ w }

pub marked_start : (m : Measure) (cells marks : List ℕ) → length marks ≡ most_table_cells → MarkedFrom m cells marks (length cells)
marked_start m cells marks l = record { size = l; at = λ i h h'. absurd (omega arith) }

-- one cell more, in front
pub marked_step : (m : Measure) (cells marks : List ℕ) (j mark : ℕ) → 0 < j → j ≤ most_table_cells → MarkOf m cells (j - 1) mark
    → MarkedFrom m cells marks j → MarkedFrom m cells (set marks (j - 1) mark) (j - 1)
marked_step m cells marks j mark s h a x = record { size = length-set marks (j - 1) mark ∙ x.size; at = λ i l h. go i l h (eqb i (j - 1)) refl }
  where
    go : (i : ℕ) → j - 1 ≤ i → i < length cells → (b : Bool) → eqb i (j - 1) ≡ b → MarkOf m cells i (get_or (set marks (j - 1) mark) i 0)
    go i l h' true q =
        let e : get_or (set marks (j - 1) mark) (j - 1) 0 ≡ mark = get_or-set_same marks (j - 1) mark 0 (omega (arith, x.size)) in
        rw (eqb-true i (j - 1) q, e) a
    go i l h' false q =
        let ne : i ≢ j - 1 = eqb-false i (j - 1) q in
        rw (get_or-set_other marks (j - 1) i mark 0 ne) (x.at i (omega (arith, ne)) h')

pub marked_all : (m : Measure) (cells marks : List ℕ) (j : ℕ) → j ≤ 0 → MarkedFrom m cells marks j → MarkedFrom m cells marks 0
marked_all m cells marks j h x = let z : j ≡ 0 = omega arith in rw z at x
