-- A row is put into the table of a record, as the code does it.
use mathlib.Core.Path.{◌≡◌, refl, sym, ap, ◌∙◌}
use mathlib.Core.List.{List}
use Prim.Native.Nat.{ℕ, ◌≤◌}
use native.Mathlib.Omega.{arith}
use lib.ListN.{length, take, replicate}
use Rattle.refusal.specs.Refusal.{Answer, told, turned}
use Rattle.refusal.specs.declared.Refusal.{Refusal}
use Rattle.refusal.specs.Read.{Read, read, refuse}
use Rattle.samerows.specs.Starts.{rows_lent}
use Rattle.std.specs.Prelude.{Result, Ok, Err}
use Rattle.table.specs.Table.{Table, table_of, starts_in, others, row_of, row_told, table_says, Row, Apart}
use Rattle.table.proofs.BesideLaws.{starts-enough, beside}
use Rattle.table.proofs.Accepted.{row-accepted, table-short}
use Rattle.record.specs.Record.{Holds, table_in, cells_in}
use Rattle.record.specs.Edits.{Edit, edit_of, Edited, no-edit, edit}
use Rattle.record.specs.code.Rows.{table_with, put_row}
use Rattle.edits.specs.declared.rows.Place.{Place}
use Rattle.edits.specs.code.Joining.{Joins, Joined, Placed, Ready}
use Rattle.edits.proofs.JoinLaws.{new-accepted}
use Rattle.limits.specs.Limits.{most_table_cells}

module _ {rec starts : List ℕ} {at : Place} (g : Placed rec starts at) where
  abbrev T : Table
  T = g.rows.table

  -- the table has a start for each of its rows
  pub enough : at.count ≤ length starts
  enough =
      let k = g.rows in
      starts-enough (table_in rec) k.here (k.starts ∙ ap starts_in (sym k.here)) (sym k.rows)

  -- the row beside the others of the table
  abbrev row_read : List ℕ → Read ℕ
  row_read row = row_of T.width (others at.number T.rows) row

  module _ {cells : List ℕ} (c : cells ≡ table_in rec) (row : List ℕ) (a : Result ℕ Refusal)
      (row-said : row_told a ≡ row_of at.width (rows_lent cells (take at.count starts) at.number) row) where
    -- what the row answers is what putting it answers
    row-there : row_told a ≡ row_read row
    row-there =
        let k = g.rows in
        let s = k.starts ∙ ap starts_in (sym k.here) in
        row-said
        ∙ ap (λ (t : List ℕ). row_of at.width (rows_lent t (take at.count starts) at.number) row) c
        ∙ beside (table_in rec) k.here s (sym k.rows) at.width at.number row
        ∙ ap (λ (w : ℕ). row_of w (others at.number T.rows) row) k.width

    pub row-turned : {f : Refusal} → a ≡ Err f → {figure : ℕ} {e : Edit} → edit_of e T ≡ put_row T at.number row
        → Edited e figure T rec rec (turned (told f))
    row-turned {f} q m =
        let t : row_read row ≡ refuse (told f) = sym row-there ∙ ap row_told q in
        no-edit (told f) (m ∙ rw t) refl refl

    module _ {v : ℕ} (q : a ≡ Ok v) where
      pub row_put : {figure : ℕ} {e : Edit} {new : List ℕ} {answer : Answer} → edit_of e T ≡ put_row T at.number row
          → Holds new figure (table_with T at.number row) × (answer ≡ table_says (read (table_with T at.number row)))
          → Edited e figure T rec new answer
      row_put m x =
          let t : row_read row ≡ read v = sym row-there ∙ ap row_told q in
          edit (table_with T at.number row) (m ∙ rw t) x.1 x.0

      pub row_is : Row T.width row × Apart (others at.number T.rows) row
      row_is = (row-accepted T.width (others at.number T.rows) row).0 (v, sym row-there ∙ ap row_told q)

      -- what joining asks, and with it what working again asks
      module _ {next : List ℕ} (z : next ≡ replicate most_table_cells 0) where
        unfoldable pub joins : Joins cells row starts at next
        joins = record {
          rows = record { table = T; here = rw c g.rows.here; starts = g.rows.starts; width = g.rows.width; rows = g.rows.rows };
          there = g.there;
          low = g.low;
          is_row = row_is.0;
          apart = row_is.1;
          empty = z;
        }

        accepted : table_of (cells_in (table_with T at.number row)) ≡ read (table_with T at.number row)
        unfolding joins
        accepted = new-accepted joins

        pub size_small : {done : List ℕ} {size : ℕ} → Joined joins done size → size ≤ most_table_cells
        unfolding joins
        size_small j = omega (arith, j.many, table-short (cells_in (table_with T at.number row)) accepted)

        pub ready : {done : List ℕ} {size : ℕ} → Joined joins done size → Ready T at.number row done size
        unfolding joins
        ready j = record { there = omega (arith, g.there, g.rows.rows); accepted = accepted; is = j.is; many = j.many }
