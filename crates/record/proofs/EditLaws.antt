-- What an edit makes of a table, by the cases of the code.
use mathlib.Core.Path.{◌≡◌}
use mathlib.Core.List.{List}
use Prim.Native.Nat.{ℕ, ◌-◌, ◌≤◌, ◌<◌}
use native.Mathlib.Omega.{arith}
use borrow.Author.Tests.{le-leb, lt-leb}
use lib.ListN.{length, take}
use lib.Seq.{set_split}
use Rattle.refusal.specs.Refusal.{refused}
use Rattle.refusal.specs.declared.Reason.TheVariants as reason
use Rattle.refusal.specs.declared.Input.TheVariants as input
use Rattle.refusal.specs.Read.{read, refuse}
use Rattle.table.specs.Table.{Table, table}
use Rattle.table.proofs.ApartLaws.{others-all}
use Rattle.record.specs.Edits.{append, drop-last, replace, edit_of}
use Rattle.record.specs.code.Rows.{put_row}
use Rattle.record.proofs.RowLaws.{with-last}

module _ (T : Table) where
  -- the only row is not dropped; of more the last is
  pub drop-only : length T.rows ≤ 1 → edit_of drop-last T ≡ refuse (refused reason.Last input.Table 0)
  unfolding edit_of
  drop-only h = rw (le-leb (length T.rows) 1 h)

  pub drop-read : 1 < length T.rows → edit_of drop-last T ≡ read (table T.width (take (length T.rows - 1) T.rows))
  unfolding edit_of
  drop-read h = rw (lt-leb (length T.rows) 1 h)

  -- a row is appended to fewer than 64
  pub append-full : (row : List ℕ) → 64 ≤ length T.rows → edit_of (append row) T ≡ refuse (refused reason.Full input.Table 0)
  unfolding edit_of
  append-full row h = rw (le-leb 64 (length T.rows) h)

  pub append-row : (row : List ℕ) → length T.rows < 64 → edit_of (append row) T ≡ put_row T (length T.rows) row
  unfolding edit_of
  append-row row h =
      rw (lt-leb 64 (length T.rows) h, with-last T.rows row, others-all (length T.rows) T.rows (omega arith))

  -- a row that is there is replaced
  pub replace-index : (r : ℕ) (row : List ℕ) → length T.rows ≤ r → edit_of (replace r row) T ≡ refuse (refused reason.Index input.Table 0)
  unfolding edit_of
  replace-index r row h = rw (le-leb (length T.rows) r h)

  pub replace-row : (r : ℕ) (row : List ℕ) → r < length T.rows → edit_of (replace r row) T ≡ put_row T r row
  unfolding edit_of
  replace-row r row h = rw (lt-leb (length T.rows) r h, set_split T.rows r row h)
