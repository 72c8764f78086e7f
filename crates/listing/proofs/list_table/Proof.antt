use mathlib.Core.Path.{sym, subst}
use mathlib.Core.List.{List}
use Prim.Native.Nat.{ℕ}
use native.Mathlib.Omega.{arith}
use lib.ListN.{length-replicate}
use lib.Seq.{length-take-le}
use Rattle.printing.proofs.ListedLaws.{listed-text, listed-as, listed-written}
use Rattle.listing.specs.Listing.{ListsTable, no_cells, cells}
use Rattle.listing.specs.code.Walk.{most}
use Rattle.listing.proofs.EntryLaws.{too_long, not-fours, in-fours, cells-front}
use borrow.Author.Rules.{rules}
use Rattle.listing.proofs.list_table.Statement.{statement}
use Rattle.listing.proofs.list_table.Tie as tie
use Rattle.limits.specs.Limits.{most_table_cells}

put-refusal-requires : tie.Need-put_refusal-requires
put-refusal-requires c κs = search rules

returns : tie.Need-returns-then-n-gt8200
returns c =
    let unread = too_long c.args.bytes.now (omega arith) in
    let line = c.put_refusal.ensures in
    listed-written {most = most} (omega arith) (listed-text line.0 (omega arith) (no_cells unread))

put-refusal-requires-2 : tie.Need-put_refusal-requires-then-n-ne0
put-refusal-requires-2 c κs = search rules

returns-2 : tie.Need-returns-then-n-ne0
returns-2 c =
    let unread = not-fours c.args.bytes.now (omega arith) (λ z. omega arith) in
    let line = c.put_refusal-then-n-ne0.ensures in
    listed-written {most = most} (omega arith) (listed-text line.0 (omega arith) (no_cells unread))

slice-aggregate-read-cells : tie.Need-slice_bounds-read_cells-end
slice-aggregate-read-cells c = search rules

read-cells-requires : tie.Need-read_cells-m-requires
read-cells-requires c κs = search rules

array-share-prefix-cells : tie.Need-slice_bounds-cells-end
array-share-prefix-cells c = ((cells-front c.args.bytes.now c.read_cells-m.ensures (omega arith)
    (length-replicate {A = ℕ} most_table_cells 0))).0

slice-aggregate-list-cells : tie.Need-slice_bounds-list_cells-end
slice-aggregate-list-cells c = sym (length-take-le _ _ ((cells-front c.args.bytes.now c.read_cells-m.ensures (omega arith)
    (length-replicate {A = ℕ} most_table_cells 0))).0)

list-cells-requires : tie.Need-list_cells-requires
list-cells-requires c κs = search rules

returns-3 : tie.Need-returns
returns-3 c =
    let bytes = c.args.bytes.now in
    let read = in-fours bytes (omega arith) (omega arith) in
    listed-written (omega arith)
    (listed-as c.list_cells.ensures (λ text l. cells read (subst (λ (t : List ℕ). ListsTable t text) ((cells-front c.args.bytes.now c.read_cells-m.ensures (omega arith)
    (length-replicate {A = ℕ} most_table_cells 0))).1 l)))

pub list_table_spec : {M : Type 1} → statement M
list_table_spec =
    tie.close
    (tie.spec
    put-refusal-requires
    returns
    put-refusal-requires-2
    returns-2
    slice-aggregate-read-cells
    read-cells-requires
    array-share-prefix-cells
    slice-aggregate-list-cells
    list-cells-requires
    returns-3)
