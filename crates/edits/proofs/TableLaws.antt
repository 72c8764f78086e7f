-- The table of a record, as the code reads it.
use mathlib.Core.Path.{◌≡◌, sym, ap, ◌∙◌}
use mathlib.Core.List.{List, flatten}
use Prim.Native.Nat.{ℕ, ◌+◌, ◌≤◌, ◌<◌}
use native.Mathlib.Omega.{arith}
use lib.ListN.{length, get_or, take}
use Rattle.refusal.specs.declared.Refusal.{Refusal}
use Rattle.refusal.specs.Read.{read}
use Rattle.table.specs.declared.TableRead.{TableRead}
use Rattle.std.specs.Prelude.{Result, Ok, Err}
use Rattle.table.specs.Table.{Table, table_of, TableReads}
use Rattle.table.proofs.Accepted.{is-table, table-short}
use Rattle.table.proofs.ReadLaws.{apart, read_one}
use Rattle.state.specs.code.First.{TableRows}
use Rattle.state.proofs.FirstLaws.{table-turned}
use Rattle.record.specs.Record.{cells_in, Holds, table_in}
use Rattle.record.proofs.PartLaws.{table-in}
use Rattle.table.proofs.PartLaws.{start-at}
use Rattle.record.proofs.StartLaws.{before-few}
use Rattle.limits.specs.Limits.{most_table_cells}

-- a record that holds a table is read as that table
held-read : {rec t : List ℕ} {figure : ℕ} {T : Table} → t ≡ table_in rec → Holds rec figure T → table_of t ≡ read T
held-read e x = rw (e, table-in x) x.accepted

pub no_table : {rec t : List ℕ} {a : Result TableRead Refusal} → t ≡ table_in rec → TableReads (table_of t) a
    → {f : Refusal} → a ≡ Err f → {figure : ℕ} {T : Table} → Holds rec figure T → {X : Type 0} → X
no_table {t = t} e reads q {T = T} x {X} = apart {x = T} (sym (held-read e x) ∙ table-turned t reads q)

module _ {t ss : List ℕ} {w n : ℕ} (k : TableRows t ss w n) where
  pub all-cells : t ≡ cells_in k.table
  all-cells = (is-table t k.here).cells

  pub few-cells : length t ≤ most_table_cells
  few-cells = table-short t k.here

  pub held-table : {rec : List ℕ} {figure : ℕ} {T : Table} → t ≡ table_in rec → Holds rec figure T → k.table ≡ T
  held-table e x = read_one (sym k.here ∙ held-read e x)

  pub start-here : (r : ℕ) → r < n → get_or ss r 0 ≡ 2 + length (flatten (take r k.table.rows))
  start-here r h = rw k.starts (start-at k.table r (omega (arith, k.rows)))

  pub start-within : (r : ℕ) → r < n → get_or ss r 0 ≤ length t
  start-within r h = omega (arith, start-here r h, ap length all-cells, before-few r k.table.rows)

-- the table that is read is the one that the record holds
module _ {rec t ss : List ℕ} {w n : ℕ} (et : t ≡ table_in rec) (k : TableRows t ss w n)
    {figure : ℕ} {T : Table} (x : Holds rec figure T) where
  pub rows_are : n ≡ length T.rows
  rows_are = k.rows ∙ ap (λ (U : Table). length U.rows) (held-table k et x)

  pub width_is : w ≡ T.width
  width_is = k.width ∙ ap (λ (U : Table). U.width) (held-table k et x)
