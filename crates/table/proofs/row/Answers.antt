use Rattle.std.proofs.Common.{arith}
use Rattle.table.proofs.PartLaws.{place_inside, place-cells}
use Rattle.table.proofs.row.Goals as goal

pub offset_bounds-cells-p : goal.offset_bounds-cells-p
offset_bounds-cells-p c = omega (arith, place_inside c.args.cells.now c.args.r c.row_place-p.ensures)

pub slice_bounds-result-end : goal.slice_bounds-result-end
slice_bounds-result-end c = (place_inside c.args.cells.now c.args.r c.row_place-p.ensures).1

pub returns : goal.returns
returns c = place-cells _ _ c.row_place-p.ensures
