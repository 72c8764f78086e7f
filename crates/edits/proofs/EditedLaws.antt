-- A row is appended or replaced, as the code does it.
use mathlib.Core.Path.{◌≡◌, refl, sym, ap, subst, ◌∙◌}
use mathlib.Core.List.{List}
use Prim.Native.Nat.{ℕ, ◌≤◌, ◌<◌}
use native.Mathlib.Omega.{arith}
use lib.ListN.{length}
use Rattle.refusal.specs.Refusal.{Answer, turned, refused}
use Rattle.refusal.specs.declared.Reason.TheVariants as reason
use Rattle.refusal.specs.declared.Input.TheVariants as input
use Rattle.table.specs.Table.{Table}
use Rattle.state.specs.code.First.{TableRows}
use Rattle.record.specs.Record.{Holds, table_in}
use Rattle.record.specs.Edits.{Edit, append, replace, edit_of, Edited, no-edit}
use Rattle.record.specs.code.Rows.{put_row}
use Rattle.record.proofs.EditLaws.{append-full, append-row, replace-index, replace-row}
use Rattle.edits.specs.declared.rows.Place.{Place}
use Rattle.edits.specs.code.Joining.{Placed}
use Rattle.edits.proofs.TableLaws.{held-table, rows_are}

abbrev pub place : ℕ → ℕ → ℕ → Place
place w n r = record { width = w; count = n; number = r }

module _ {rec t ss : List ℕ} {w n : ℕ} (et : t ≡ table_in rec) (k : TableRows t ss w n) where
  -- a place in the record's table
  unfoldable pub placed : (r : ℕ) → r ≤ n → r < 64 → Placed rec ss (place w n r)
  placed r h l = record {
    rows = record { table = k.table; here = rw (← et) k.here; starts = k.starts; width = k.width; rows = k.rows };
    there = h;
    low = l;
  }

  module _ {figure : ℕ} {T : Table} (x : Holds rec figure T) (row : List ℕ) where
    pub full : 64 ≤ n → {a : Answer} → a ≡ turned (refused reason.Full input.Table 0) → Edited (append row) figure T rec rec a
    full h e = no-edit (refused reason.Full input.Table 0) (append-full T row (omega (arith, rows_are et k x))) e refl

    pub no_row : (r : ℕ) → n ≤ r → {a : Answer} → a ≡ turned (refused reason.Index input.Table 0)
        → Edited (replace r row) figure T rec rec a
    no_row r h e = no-edit (refused reason.Index input.Table 0) (replace-index T r row (omega (arith, rows_are et k x))) e refl

    -- what is put into the table that is read is put into the one that the record holds
    module _ {new : List ℕ} {a : Answer} {r : ℕ} (h : r ≤ n) (l : r < 64)
        (given : (g : Placed rec ss (place w n r)) (figure : ℕ) (e : Edit) → Holds rec figure g.rows.table
        → edit_of e g.rows.table ≡ put_row g.rows.table r row → Edited e figure g.rows.table rec new a) where
      put-held : (e : Edit) → edit_of e T ≡ put_row T r row → Edited e figure T rec new a
      unfolding placed
      put-held e m =
          let q : T ≡ k.table = sym (held-table k et x) in
          subst (λ (U : Table). Edited e figure U rec new a) (sym q)
          (given (placed r h l) figure e (subst (Holds rec figure) q x) (subst (λ (U : Table). edit_of e U ≡ put_row U r row) q m))

      pub appended : n ≡ r → Edited (append row) figure T rec new a
      appended e =
          let q = rows_are et k x in
          let i : length T.rows ≡ r = omega arith in
          put-held (append row) (append-row T row (omega arith) ∙ ap (λ (i : ℕ). put_row T i row) i)

      pub replaced : r < n → Edited (replace r row) figure T rec new a
      replaced i = put-held (replace r row) (replace-row T r row (omega (arith, rows_are et k x)))
