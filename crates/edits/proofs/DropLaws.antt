-- The last row is dropped, as the code does it.
use mathlib.Core.Path.{◌≡◌, refl, ap, ◌∙◌}
use mathlib.Core.List.{List, ◌++◌, flatten}
use Prim.Native.Nat.{ℕ, ◌+◌, ◌-◌, ◌≤◌, ◌<◌}
use native.Mathlib.Omega.{arith}
use lib.ListN.{length, get_or, set, take, drop, replicate}
use lib.Seq.{sets, length-take-le}
use Rattle.refusal.specs.Refusal.{Answer, answered, turned, refused}
use Rattle.refusal.specs.declared.Reason.TheVariants as reason
use Rattle.refusal.specs.declared.Input.TheVariants as input
use Rattle.table.specs.Table.{Table, table}
use Rattle.state.specs.code.First.{TableRows}
use Rattle.record.specs.Record.{cells_in, Holds, table_in}
use Rattle.record.specs.Edits.{Edited, no-edit, edit, drop-last}
use Rattle.record.specs.code.Zeros.{Cleared}
use Rattle.record.proofs.EditLaws.{drop-only, drop-read}
use Rattle.record.proofs.DropLaws.{row-dropped}
use Rattle.edits.proofs.TableLaws.{all-cells, held-table, rows_are, width_is, start-here}

module _ {rec t ss : List ℕ} {w n : ℕ} (et : t ≡ table_in rec) (k : TableRows t ss w n)
    {figure : ℕ} {T : Table} (x : Holds rec figure T) where
  pub only_row : n ≤ 1 → {a : Answer} → a ≡ turned (refused reason.Last input.Table 0) → Edited drop-last figure T rec rec a
  only_row h e = no-edit (refused reason.Last input.Table 0) (drop-only T (omega (arith, rows_are et k x))) e refl

  pub last-dropped : 1 < n → {cleared new : List ℕ}
      → cleared ≡ sets rec (2 + get_or ss (n - 1) 0) (replicate (2 + length t - (2 + get_or ss (n - 1) 0)) 0)
      → Cleared (n - 1) (take (length cleared - 2052) (drop 2052 cleared)) new
      → {headed done : List ℕ}
      → headed ≡ set (take 2052 cleared ++ (new ++ drop (length cleared - 2052) (drop 2052 cleared))) 0 (get_or ss (n - 1) 0)
      → done ≡ set headed 3 (n - 1) → Edited drop-last figure T rec done (answered w (n - 1))
  last-dropped h e c i d =
      let q = rows_are et k x in
      let s : get_or ss (n - 1) 0 ≡ 2 + length (flatten (take (n - 1) T.rows)) =
      start-here k (n - 1) (omega arith) ∙ ap (λ (U : Table). 2 + length (flatten (take (n - 1) U.rows))) (held-table k et x) in
      let l : length t ≡ length (cells_in T) = ap length (all-cells k) ∙ ap (λ (U : Table). length (cells_in U)) (held-table k et x) in
      let m : length T.rows - 1 ≡ n - 1 = omega arith in
      let f : length (take (n - 1) T.rows) ≡ n - 1 = length-take-le (n - 1) T.rows (omega arith) in
      edit (table T.width (take (n - 1) T.rows)) (rw m at (drop-read T (omega arith))) (rw (width_is et k x, f))
      (row-dropped x (omega arith) (omega arith) s l e c i d)
