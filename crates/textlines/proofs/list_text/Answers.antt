use mathlib.Core.Path.{◌≡◌, sym}
use Prim.Native.Nat.{ℕ}
use native.Mathlib.Omega.{arith}
use lib.ListN.{length, replicate, length-replicate}
use lib.Seq.{length-take-le}
use Rattle.refusal.specs.Refusal.{told}
use Rattle.printing.proofs.ListedLaws.{listed-text, listed-written}
use Rattle.textlines.specs.Lines.{cell_room, name_room, refused}
use Rattle.textlines.specs.code.Puts.{most}
use Rattle.textlines.proofs.EntryLaws.{came-read, came_refused, table-listed}
use Rattle.textlines.proofs.list_text.Goals as goal

-- the rooms that are lent
lent-cells : length {A = ℕ} (replicate 32768 0) ≡ cell_room
lent-cells = length-replicate {A = ℕ} 32768 0

lent-names : length {A = ℕ} (replicate 32766 0) ≡ name_room
lent-names = length-replicate {A = ℕ} 32766 0

pub slice_bounds-cells-end : goal.slice_bounds-cells-end
slice_bounds-cells-end c = (came-read _ c.read_text.ensures lent-cells lent-names _ c.in-Ok.is).inside.0

pub slice_bounds-put_table-end-in-Ok : goal.slice_bounds-put_table-end-in-Ok
slice_bounds-put_table-end-in-Ok c = sym (length-take-le _ _ (came-read _ c.read_text.ensures lent-cells lent-names _ c.in-Ok.is).inside.0)

pub slice_bounds-names-end : goal.slice_bounds-names-end
slice_bounds-names-end c = (came-read _ c.read_text.ensures lent-cells lent-names _ c.in-Ok.is).inside.1

pub slice_bounds-put_table-end-in-Ok-2 : goal.slice_bounds-put_table-end-in-Ok-2
slice_bounds-put_table-end-in-Ok-2 c = sym (length-take-le _ _ (came-read _ c.read_text.ensures lent-cells lent-names _ c.in-Ok.is).inside.1)

pub returns-in-Ok : goal.returns-in-Ok
returns-in-Ok c =
    listed-written (omega arith) (table-listed (came-read _ c.read_text.ensures lent-cells lent-names _ c.in-Ok.is) c.put_table.ensures)

pub returns-in-Err : goal.returns-in-Err
returns-in-Err c =
    let f = c.in-Err.f in
    let turned = came_refused _ c.read_text.ensures lent-cells lent-names f c.in-Err.is in
    let line = c.put_refusal.ensures in
    listed-written {most = most} (omega arith) (listed-text line.0 (omega arith) (refused (told f) turned))
