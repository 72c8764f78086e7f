-- A state with one row where no column is named: its plan is a chain of single branches, one for each of the row's open cells.
use mathlib.Core.Path.{◌≡◌, refl, sym, ap, subst, ◌∙◌}
use mathlib.Core.Bool.{Bool, false, not}
use mathlib.Core.List.{List, [], ◌∷◌, ◌++◌, append-nil}
use Prim.Native.Nat.{ℕ, suc, ◌+◌, ◌-◌, ◌≤◌, ◌<◌}
use native.Mathlib.Omega.{arith}
use lib.Dec.{eqb}
use lib.ListN.{length, set, length-set}
use lib.Seq.{sets}
use borrow.Author.Tests.{lt-ltb}
use Rattle.cell.specs.Cell.{arity}
use Rattle.term.specs.Terms.{Terms, none, more, root, close}
use Rattle.plan.specs.Runs.{run}
use Rattle.plan.specs.Plans.{Plan, write, writes}
use Rattle.plan.specs.Named.{flag, freely, spread}
use Rattle.plan.proofs.NamedLaws.{none-spread, none_named, is-may}
use Rattle.plan.proofs.PlansLaws.{leaf-cells}
use Rattle.state.specs.Flags.{flags_in}
use Rattle.state.specs.States.{row_at, rows_in}
use Rattle.state.proofs.FlagsLaws.{any-bit}
use Rattle.state.proofs.RowsLaws.{rows_none, rows-first, same_self}
use Rattle.least.specs.code.Follow.{agreed_from, taken, Follows}
use Rattle.builder.specs.code.Writing.{chain, ToWrite, Written}
use Rattle.builder.proofs.WritingLaws.{node-cells, next-plan, no-plan}
use Rattle.limits.specs.Limits.{most_plan_cells}

-- there is a cell for the leaf
chain-some : (row : List ℕ) → 0 < length (chain row)
unfolding chain
chain-some [] = omega arith
chain-some (c ∷ row) = omega arith

-- THE LOOP. Some of the row's cells are written: what the others write from the next place on is all of it.
pub record Chained (row out : List ℕ) (at : ℕ) (left out₁ : List ℕ) (next : ℕ) : Type 0 where
  pub size : length out₁ ≡ most_plan_cells
  pub fits : next + length (chain left) ≤ most_plan_cells
  pub next-is : next + length (chain left) ≡ at + length (chain row)
  pub out-is : sets out₁ next (chain left) ≡ sets out at (chain row)

pub chained-start : (row out : List ℕ) (at : ℕ) → length out ≡ most_plan_cells → at + length (chain row) ≤ most_plan_cells → Chained row out at row out at
chained-start row out at s f = record { size = s; fits = f; next-is = refl; out-is = refl }

module _ {row out : List ℕ} {at : ℕ} {left out₁ : List ℕ} {next : ℕ} (g : Chained row out at left out₁ next) where
  -- there is room for the leaf, which ends it
  pub chained-room : next < most_plan_cells
  chained-room = omega (arith, g.fits, chain-some left)

  pub chained-end : left ≡ [] → (r : ℕ) (out₂ : List ℕ) → (r ≡ next + 1) × (out₂ ≡ set out₁ next 1)
      → (r ≡ at + length (chain row)) × (out₂ ≡ sets out at (chain row))
  unfolding chain
  chained-end e r out₂ d =
      let n = rw e at g.next-is in
      let o = rw e at g.out-is in
      (omega (arith, d.0, n), d.1 ∙ o)

  -- one cell more
  module _ (c : ℕ) (rest : List ℕ) (e : left ≡ c ∷ rest) where
    pub chained_more : next + 3 < most_plan_cells
    unfolding chain
    chained_more = let f = rw e at g.fits in omega (arith, f, chain-some rest)

    pub chained-next : Chained row out at rest (set (set (set out₁ next 0) (next + 1) 1) (next + 2) c) (next + 3)
    unfolding chain
    chained-next =
        let f = rw e at g.fits in
        let n = rw e at g.next-is in
        let o = rw e at g.out-is in
        let p : next + 1 ≡ suc next = omega arith in
        let q : next + 2 ≡ suc (suc next) = omega arith in
        let s : next + 3 ≡ suc (suc (suc next)) = omega arith in
        record {
          size = length-set (set (set out₁ next 0) (next + 1) 1) (next + 2) c ∙ length-set (set out₁ next 0) (next + 1) 1
              ∙ length-set out₁ next 0 ∙ g.size;
          fits = omega (arith, f);
          next-is = omega (arith, n);
          out-is = rw (p, q, s) o;
        }

-- THE PLAN of a row alone, where no flag is set: the leftmost place is taken, and its one branch has the row's first open cell.
module _ (kept : List ℕ) (first : ℕ) where
  leftmost : (fs : List Bool) (k : ℕ) (r : List ℕ) → ((j : ℕ) → flag j fs ≡ false) → 0 ≡ taken kept fs first (suc k) (r ∷ [])
  unfolding taken agreed_from
  leftmost fs k r n = rw (is-may fs 0 (freely n), lt-ltb 0 (suc k) (omega arith))

  chain-cells : (fs : List Bool) {k : ℕ} {row : List ℕ} → ((j : ℕ) → flag j fs ≡ false) → Terms k row → (p : Plan k (row ∷ []))
      → Follows kept fs first p → write p ≡ chain row
  unfolding chain root close
  chain-cells fs n none p f = leaf-cells p refl
  chain-cells fs n (more {c} {k} {xs} t) p f =
      let b = node-cells kept fs first p k 0 refl f (leftmost fs k (c ∷ xs) n) in
      let g = next-plan kept fs first 0 b.plans (run c (xs ∷ [])) [] refl b.follows in
      let below = chain-cells (spread 0 (arity c) fs) (λ j. none-spread 0 (arity c) j fs n) t g.plan g.follows in
      let w : write g.plan ++ writes g.plans ≡ chain xs = rw (no-plan g.plans refl, append-nil (write g.plan)) below in
      b.cells_are ∙ ap (λ (l : List ℕ). 0 ∷ (1 ∷ l)) (g.cells_are ∙ ap (λ (l : List ℕ). c ∷ l) w)

module _ {t ss ms hs kept out : List ℕ} {first last k named at : ℕ} (q : ToWrite t ss ms hs kept out first last k named at)
    (one : last - first ≡ 1) (none_is : named ≡ 0) where
  abbrev row : List ℕ
  row = row_at t ss ms first

  rows_are : rows_in t ss ms first last ≡ row ∷ []
  rows_are =
      let e : first + 1 ≡ last = omega (arith, q.some) in
      rows-first t ss ms first last q.some ∙ rw (e, rows_none t ss ms last)

  fits-row : Terms k row
  fits-row = (rw rows_are at q.rows).0.0

  no_flag : (j : ℕ) → flag j (flags_in k named) ≡ false
  no_flag = let e : not (eqb named 0) ≡ false = rw none_is in none_named (flags_in k named) (any-bit k named q.flags ∙ e)

  chain-is : write q.plan ≡ chain row
  chain-is =
      subst (λ (rows : List (List ℕ)). (p : Plan k rows) → Follows kept (flags_in k named) first p → write p ≡ chain row) (sym rows_are)
      (λ p f. chain-cells kept first (flags_in k named) no_flag fits-row p f) q.plan q.follows

  -- what the loop asks
  pub alone-fits : at + length (chain row) ≤ most_plan_cells
  alone-fits = omega (arith, q.fits, ap length chain-is)

  pub alone-written : (r : ℕ) (out₁ : List ℕ) → (r ≡ at + length (chain row)) × (out₁ ≡ sets out at (chain row))
      → Written ms hs out ms hs out₁ (write q.plan) last at r
  alone-written r out₁ d =
      rw chain-is (record { next-is = d.0; out-is = d.1; masks = same_self last ms; column = same_self last hs })
