-- The loop that asks whether all rows of a state agree at a place: how many neighbours do not is the same from each row on that is passed.
use mathlib.Core.Path.{◌≡◌, refl, sym, ◌∙◌}
use mathlib.Core.Bool.{true, false}
use mathlib.Core.List.{List, map}
use Prim.Native.Nat.{ℕ, suc, ◌+◌, ◌≤◌, ◌<◌}
use native.Mathlib.Omega.{arith}
use Rattle.term.specs.Terms.{root}
use Rattle.plan.specs.Runs.{agree}
use Rattle.state.specs.Column.{breaks, run_count}
use Rattle.state.specs.States.{row_at, rows_in}
use Rattle.state.proofs.RowsLaws.{rows_none, rows-first}

module _ (t ss ms : List ℕ) (i first end : ℕ) where
  -- the cells from a row on
  abbrev pub cells_from : ℕ → List ℕ
  cells_from row = map (root i) (rows_in t ss ms row end)

  -- row and the rows before it agree, the last of them having this cell
  pub record Agreeing (row cell : ℕ) : Type 0 where
    pub later : first < row
    pub within : row ≤ end
    pub rest : suc (breaks cell (cells_from row)) ≡ run_count (cells_from first)

  pub agreeing-start : (cell : ℕ) → first < end → cell ≡ root i (row_at t ss ms first) → Agreeing (first + 1) cell
  agreeing-start cell h e = record { later = omega arith; within = omega arith; rest = rw (rows-first t ss ms first end h, e) }

  module _ {row cell : ℕ} (a : Agreeing row cell) where
    pub agreeing-all : end ≤ row → run_count (cells_from first) ≡ 1
    unfolding breaks
    agreeing-all h = let e : row ≡ end = omega (arith, a.within) in sym a.rest ∙ rw (e, rows_none t ss ms end)

    pub agreeing-next : (next : ℕ) → row < end → next ≡ root i (row_at t ss ms row) → agree cell next ≡ true → Agreeing (row + 1) next
    unfolding breaks
    agreeing-next next h e s = record {
      later = omega (arith, a.later);
      within = omega arith;
      rest = (let r = rw (rows-first t ss ms row end h, ← e, s) at a.rest in r);
    }

    pub agreeing-not : (next : ℕ) → row < end → next ≡ root i (row_at t ss ms row) → agree cell next ≡ false
        → run_count (cells_from first) ≡ 1 → ⊥
    unfolding breaks
    agreeing-not next h e s o = let r = rw (rows-first t ss ms row end h, ← e, s) at a.rest in omega arith

  -- a single row agrees with itself
  pub agreeing-alone : first + 1 ≡ end → run_count (cells_from first) ≡ 1
  agreeing-alone h = agreeing-all (agreeing-start (root i (row_at t ss ms first)) (omega arith) refl) (omega arith)
