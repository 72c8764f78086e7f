-- A table for which a plan is asked by a measure: FIGURE, and then what reading the table says.
use mathlib.Core.Path.{◌≡◌, sym, ◌∙◌}
use mathlib.Core.Bool.{Bool, true, false, cond}
use mathlib.Core.List.{List}
use Prim.Native.Nat.{ℕ, ◌≤◌, ◌<◌}
use native.Mathlib.Omega.{arith}
use lib.Dec.{ltb}
use borrow.Author.Tests.{ltb-false, lt-ltb, le-ltb}
use Rattle.refusal.specs.Refusal.{refused}
use Rattle.refusal.specs.declared.Reason.TheVariants as reason
use Rattle.refusal.specs.declared.Input.TheVariants as input
use Rattle.refusal.specs.Read.{Read, read, refuse, when}
use Rattle.table.specs.Table.{Table, table_of}
use Rattle.table.proofs.ReadLaws.{apart}
use Rattle.least.specs.Measures.{measure_of, table_by}
use Rattle.least.specs.declared.By.{By}

module _ (by : By) (t : List ℕ) where
  pub by-table : (measure_of by).figure ≤ 15 → table_by by t ≡ table_of t
  unfolding table_by
  by-table h = rw (le-ltb 15 (measure_of by).figure h)

  pub by-figure : 15 < (measure_of by).figure → table_by by t ≡ refuse (refused reason.Figure input.Figure 0)
  unfolding table_by
  by-figure h = rw (lt-ltb 15 (measure_of by).figure h)

  -- where it is read, the figure is small
  pub by_read : {T : Table} → table_by by t ≡ read T → (measure_of by).figure ≤ 15
  unfolding table_by
  by_read {T} = go (ltb 15 (measure_of by).figure) (ltb-false 15 (measure_of by).figure)
    where
      go : (b : Bool) → (b ≡ false → (measure_of by).figure ≤ 15) → when b (refused reason.Figure input.Figure 0) (table_of t) ≡ read T → (measure_of by).figure ≤ 15
      go true h e = apart (sym e)
      go false h e = h cc
