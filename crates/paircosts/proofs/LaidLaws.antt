-- The rows of a table that is read, as they stand in its cells.
use mathlib.Core.Path.{◌≡◌, sym, ap, ◌∙◌}
use mathlib.Core.Logic.{by_cases}
use mathlib.Core.List.{List, [], ◌∷◌, flatten}
use Prim.Native.Nat.{ℕ, ◌+◌, ◌-◌, ◌*◌, ◌≤◌, ◌<◌}
use native.Mathlib.Decide.{dec_lt}
use native.Mathlib.Omega.{arith}
use lib.ListN.{length, get_or, take, drop, length-append}
use borrow.Author.Tests.{lt-ltb, le-ltb}
use Rattle.table.specs.All.{All}
use Rattle.table.specs.Table.{table_of, starts_in, RowPlace, Head, Row}
use Rattle.table.proofs.AllLaws.{all-each}
use Rattle.table.proofs.Accepted.{is-table}
use Rattle.table.proofs.PartLaws.{part, place-next, place-last, place_inside, place-cells}
use Rattle.state.specs.code.First.{TableRows}
use Rattle.plan.specs.code.Fits.{Fits}
use Rattle.plan.proofs.CheckLaws.{rows_fit}
use Rattle.paircosts.specs.code.Filling.{stop_of, Laid, Rows}
use Rattle.least.proofs.Parts.{take-drop}

flatten-short : (w : ℕ) (rows : List (List ℕ)) → All (Fits 32 w) rows → length (flatten rows) ≤ 32 * length rows
unfolding flatten
flatten-short w [] f = omega arith
flatten-short w (r ∷ rs) f = omega (arith, f.0.1, length-append r (flatten rs), flatten-short w rs f.1)

module _ {t ss : List ℕ} {w n : ℕ} (k : TableRows t ss w n) where
  place : (r : ℕ) → r < n → RowPlace (table_of t) r (part (get_or ss r 0) (stop_of t ss n r))
  place r h =
      let s : ss ≡ starts_in (table_of t) = rw k.here k.starts in
      by_cases (dec_lt (r + 1) n)
      (λ (l : r + 1 < n). rw (lt-ltb (r + 1) n l) (place-next t k.here r s (omega (arith, k.rows))))
      (λ l. let m : n ≤ r + 1 = omega arith in rw (le-ltb (r + 1) n m) (place-last t k.here r s (omega (arith, k.rows))))

  pub laid : Laid t ss n w k.table.rows
  laid =
      let i = is-table t k.here in
      let f = rows_fit k.table.width k.table.rows i.each in
      record {
        number = sym k.rows;
        few = omega (arith, k.rows, i.count.1);
        size = omega (arith, i.count.1, ap length i.cells, flatten-short k.table.width k.table.rows f);
        fits = fits_width (sym k.width) f;
        heads = heads-width (sym k.width) i.each;
        order = λ r h. place_inside t r (place r h);
        row = λ r h. (let p = place_inside t r (place r h) in
            let e : get_or ss r 0 + (stop_of t ss n r - get_or ss r 0) ≡ stop_of t ss n r = omega arith in
            sym (ap (λ (x : ℕ). drop (get_or ss r 0) (take x t)) (sym e) ∙ sym (take-drop (get_or ss r 0) (stop_of t ss n r - get_or ss r 0) t)
            ∙ place-cells t r (place r h) ∙ rw k.here));
      }
    where
      fits_width : {v : ℕ} → v ≡ w → All (Fits 32 v) k.table.rows → All (Fits 32 w) k.table.rows
      fits_width e f = rw (← e) f

      heads-width : {v : ℕ} → v ≡ w → All (Head v) k.table.rows → All (Head w) k.table.rows
      heads-width e f = rw (← e) f

  unfoldable pub laid-rows : Rows t ss n
  laid-rows = record { width = w; rows = k.table.rows; laid = laid }
