-- A table's cells with one row put, as the code joins them.
use mathlib.Core.Path.{◌≡◌, sym, ap, subst, ◌∙◌}
use mathlib.Core.Bool.{cond}
use mathlib.Core.List.{List, flatten}
use Prim.Native.Nat.{ℕ, suc, ◌+◌, ◌-◌, ◌≤◌}
use native.Mathlib.Omega.{arith}
use lib.Dec.{ltb}
use lib.ListN.{length, get_or, set, take, drop, length-replicate}
use lib.Seq.{sets}
use Rattle.refusal.specs.Read.{read}
use Rattle.table.specs.Table.{Table, table_of}
use Rattle.table.proofs.Accepted.{table-short}
use Rattle.state.proofs.FirstLaws.{few-rows}
use Rattle.record.specs.Record.{cells_in}
use Rattle.record.specs.code.Rows.{with_row, table_with}
use Rattle.record.proofs.StartLaws.{edge-is}
use Rattle.record.proofs.RowLaws.{with-length, Sizes, with-sizes, with-stored, with-accepted}
use Rattle.edits.specs.declared.rows.Place.{Place}
use Rattle.edits.specs.code.Joining.{Joins, Joined}
use Rattle.edits.proofs.TableLaws.{all-cells}
use Rattle.limits.specs.Limits.{most_table_cells}

module _ {cells row starts : List ℕ} {at : Place} {next : List ℕ} (g : Joins cells row starts at next) where
  abbrev T : Table
  T = g.rows.table

  abbrev pub new : Table
  new = table_with T at.number row

  pub few : at.count ≤ 64
  few = (few-rows g.rows).1

  pub room : length next ≡ most_table_cells
  room = ap length g.empty ∙ length-replicate {A = ℕ} most_table_cells 0

  there : at.number ≤ length T.rows
  there = omega (arith, g.there, g.rows.rows)

  pub new-accepted : table_of (cells_in new) ≡ read new
  new-accepted =
      with-accepted T at.number row (rw (← all-cells g.rows) g.rows.here) there g.low g.is_row g.apart

  pub small : length (cells_in new) ≤ most_table_cells
  small = table-short (cells_in new) new-accepted

  edge_at : (r : ℕ) → cond (ltb r at.count) (get_or starts r 0) (length cells) ≡ 2 + length (flatten (take r T.rows))
  edge_at r = edge-is T (all-cells g.rows) g.rows.starts g.rows.rows r

  count-is : {n : ℕ} → n ≡ at.number + suc (at.count - suc at.number) → n ≡ length (with_row T.rows at.number row)
  count-is e = omega (arith, with-length T.rows at.number row there, g.rows.rows)

  module _ {start end : ℕ} (s : start ≡ cond (ltb at.number at.count) (get_or starts at.number 0) (length cells))
      (e : end ≡ cond (ltb (at.number + 1) at.count) (get_or starts (at.number + 1) 0) (length cells)) where
    start_is : start ≡ 2 + length (flatten (take at.number T.rows))
    start_is = s ∙ edge_at at.number

    end_is : end ≡ 2 + length (flatten (take (suc at.number) T.rows))
    end_is = let q : at.number + 1 ≡ suc at.number = omega arith in e ∙ edge_at (at.number + 1) ∙ rw q

    pub sizes : Sizes cells row start end (length (cells_in new))
    sizes =
        subst (λ (c : List ℕ). Sizes c row start end (length (cells_in new))) (sym (all-cells g.rows))
        (with-sizes T at.number row start_is end_is)

    pub joined : {s₁ s₂ s₃ s₄ : List ℕ} {n size : ℕ} → s₁ ≡ sets next 0 (take start cells) → s₂ ≡ sets s₁ start row
        → s₃ ≡ sets s₂ (start + length row) (take (length cells - end) (drop end cells)) → s₄ ≡ set s₃ 1 n
        → n ≡ at.number + suc (at.count - suc at.number) → size ≡ start + length row + (length cells - end) → Joined g s₄ size
    joined e₁ e₂ e₃ e₄ c m = record {
      is = e₄ ∙ with-stored T at.number row (all-cells g.rows) g.empty e₁ e₂ e₃ start_is end_is (count-is c) small;
      many = m ∙ sizes.all;
    }
