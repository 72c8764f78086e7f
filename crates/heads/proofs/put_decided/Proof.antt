use mathlib.Core.Path.{sym}
use native.Mathlib.Omega.{arith}
use lib.Seq.{length-take-le}
use Rattle.heads.proofs.HeadLaws.{none-decided, decided-put}
use borrow.Author.Rules.{rules}
use Rattle.heads.proofs.put_decided.Statement.{statement}
use Rattle.heads.proofs.put_decided.Tie as tie

-- src/lib.rt:56:9
hole-at-requires : tie.Need-hole_at-at-requires
hole-at-requires c κs = search rules

-- src/lib.rt:58:9
put-cells-requires : tie.Need-put_cells-requires
put-cells-requires c κs = search rules

-- src/lib.rt:58:9
same_length : tie.Need-shape_of-out-then-head-at
same_length c = search rules

-- src/lib.rt:58:9
returns : tie.Need-returns-then-head-at
returns c =
    let a = c.args in
    rw (none-decided a.i a.c c.hole_at-at.result a.head.now c.hole_at-at.ensures c.if-head-at.true) c.put_cells.ensures

-- src/lib.rt:60:31
slice-aggregate-put-cells : tie.Need-slice_bounds-put_cells-end
slice-aggregate-put-cells c =
    sym (length-take-le c.hole_at-at.result c.args.head.now (omega arith))

-- src/lib.rt:60:9
put-cells-requires-2 : tie.Need-put_cells-a-requires
put-cells-requires-2 c κs = search rules

-- src/lib.rt:61:9
put-cell-requires : tie.Need-put_cell-b-requires
put-cell-requires c κs = search rules

-- src/lib.rt:62:31
arity-of-requires : tie.Need-arity_of-requires
arity-of-requires c κs = search rules

-- src/lib.rt:62:9
put-holes-requires : tie.Need-put_holes-d-requires
put-holes-requires c κs = search rules

-- src/lib.rt:63:17
add-after : tie.Need-overflow_add-after
add-after c = search rules

-- src/lib.rt:65:23
mul-put-cells : tie.Need-offset_bounds-head-after
mul-put-cells c = search rules

-- src/lib.rt:65:23
sub-put-cells : tie.Need-slice_bounds-put_cells-count
sub-put-cells c = search rules

-- src/lib.rt:65:23
part-put-cells-start : tie.Need-slice_bounds-put_cells-start
part-put-cells-start c = search rules

-- src/lib.rt:65:23
part-put-cells-end : tie.Need-slice_bounds-put_cells-end-2
part-put-cells-end c = search rules

-- src/lib.rt:65:5
put-cells-requires-3 : tie.Need-put_cells-requires-2
put-cells-requires-3 c κs = search rules

-- src/lib.rt:53:1
same-length-2 : tie.Need-shape_of-out
same-length-2 c = search rules

-- src/lib.rt:53:1
returns-2 : tie.Need-returns
returns-2 c =
    let a = c.args in
    decided-put a.i a.c c.hole_at-at.result a.head.now c.arity_of.result c.hole_at-at.ensures c.if-head-at.false
    c.put_cells-a.ensures c.put_cell-b.ensures c.arity_of.ensures c.put_holes-d.ensures c.put_cells-2.ensures

pub put_decided_spec : {M : Type 1} → statement M
put_decided_spec =
    tie.close
    (tie.spec
    hole-at-requires
    put-cells-requires
    same_length
    returns
    slice-aggregate-put-cells
    put-cells-requires-2
    put-cell-requires
    arity-of-requires
    put-holes-requires
    add-after
    mul-put-cells
    sub-put-cells
    part-put-cells-start
    part-put-cells-end
    put-cells-requires-3
    same-length-2
    returns-2)
