use Prim.Native.Nat.{◌-◌}
use mathlib.Core.Path.{sym, ◌∙◌}
use native.Mathlib.Omega.{arith}
use lib.ListN.{length}
use borrow.Rule.Slice.PartMut.{same_len_mid}
use Rattle.texttable.proofs.TableLaws.{counts-wide, stored, stored-long, writes, table-made}
use Rattle.texttable.proofs.make_table.Goals as goal

pub overflow_cast-made : goal.overflow_cast-made
overflow_cast-made c =
    let a = c.args in
    let P = c.requires in
    omega (arith, (counts-wide P.0).0, P.1)

pub overflow_cast-made-2 : goal.overflow_cast-made-2
overflow_cast-made-2 c =
    let a = c.args in
    let P = c.requires in
    omega (arith, (counts-wide P.0).1, P.1)

pub slice_bounds-write_cells-count : goal.slice_bounds-write_cells-count
slice_bounds-write_cells-count c =
    let a = c.args in
    let P = c.requires in
    omega (arith, stored-long a.text.now a.list.now a.made.now a.c P.0 P.1 P.2 P.3)

pub slice_bounds-write_cells-start : goal.slice_bounds-write_cells-start
slice_bounds-write_cells-start c =
    let a = c.args in
    let P = c.requires in
    omega (arith, stored-long a.text.now a.list.now a.made.now a.c P.0 P.1 P.2 P.3)

pub write_cells-requires : goal.write_cells-requires
write_cells-requires c =
    let a = c.args in
    let P = c.requires in
    (writes a.text.now a.list.now a.made.now a.c P.0 P.1 P.2 P.3, P.1)

pub shape_of-made : goal.shape_of-made
shape_of-made c =
    let a = c.args in
    let P = c.requires in
    let w = c.write_cells in
    let xs = stored a.text.now a.list.now a.made.now a.c P.0 P.1 P.2 P.3 in
    same_len_mid 2 (length xs - 2) xs w.new.cells w.auto.cells
    ∙ stored-long a.text.now a.list.now a.made.now a.c P.0 P.1 P.2 P.3 ∙ sym P.3

pub returns : goal.returns
returns c = λ C.
    let a = c.args in
    let P = c.requires in
    let w = c.write_cells in
    table-made a.text.now a.list.now a.made.now a.c C P.1 P.2 P.3 w.new.list w.new.cells w.result
    (w.ensures (writes a.text.now a.list.now a.made.now a.c C P.1 P.2 P.3))
