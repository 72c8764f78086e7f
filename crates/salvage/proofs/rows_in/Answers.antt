use Prim.Native.Nat.{ℕ, ◌-◌, ◌≤◌, min}
use mathlib.Core.Path.{◌≡◌, refl, ◌∙◌, ap}
use native.Mathlib.Omega.{arith}
use lib.ListN.{drop}
use Rattle.limits.specs.Limits.{most_rows_cells}
use Rattle.salvage.proofs.RowsLaws.{keeps-within, short-size, none_kept, rows-kept}
use Rattle.salvage.proofs.rows_in.Goals as goal

most : (a : ℕ) {m e : ℕ} → m ≡ min a 2052 → e ≤ m - 4 → e ≤ most_rows_cells
most a e h = omega arith

pub returns-then-m-lt4 : goal.returns-then-m-lt4
returns-then-m-lt4 c = λ file z.
    rw c.turn.ensures (short-size z refl (c.min-m.ensures ∙ ap (λ (j : ℕ). min j 2052) c.min.ensures) (omega arith))

pub returns-then-rows-eq0 : goal.returns-then-rows-eq0
returns-then-rows-eq0 c = λ file z.
    rw c.turn-then-rows-eq0.ensures
    (none_kept z refl (c.min-m.ensures ∙ ap (λ (j : ℕ). min j 2052) c.min.ensures) (omega arith) refl refl c.keep_rows-kept.ensures c.if-rows-eq0.true)

pub overflow_add-end : goal.overflow_add-end
overflow_add-end c =
    let k = keeps-within _ _ (c.min-m.result - 4) (drop 4 c.args.cells.now) c.keep_rows-kept.ensures in
    omega (arith, k.0, most c.min.result c.min-m.ensures k.1)

pub overflow_cast-cells-2 : goal.overflow_cast-cells-2
overflow_cast-cells-2 c =
    let k = keeps-within _ _ (c.min-m.result - 4) (drop 4 c.args.cells.now) c.keep_rows-kept.ensures in
    omega (arith, k.0, most c.min.result c.min-m.ensures k.1)

pub returns : goal.returns
returns c = λ file z.
    let k = keeps-within _ _ (c.min-m.result - 4) (drop 4 c.args.cells.now) c.keep_rows-kept.ensures in
    rows-kept z refl (c.min-m.ensures ∙ ap (λ (j : ℕ). min j 2052) c.min.ensures) (omega arith) refl refl c.keep_rows-kept.ensures c.requires.0
    (refl, omega arith) (λ e. omega (arith, e)) (omega (arith, k.0, most c.min.result c.min-m.ensures k.1, c.requires.0))
