use mathlib.Core.Path.{refl, sym}
use Prim.Native.Nat.{ℕ, ◌-◌, ◌≤◌}
use mathlib.Core.List.{List}
use native.Mathlib.Omega.{arith}
use lib.ListN.{length, drop, length-take, length-drop}
use lib.Seq.{length-take-le}
use Rattle.record.specs.Record.{cells_in}
use Rattle.record.proofs.RowLaws.{Sizes}
use Rattle.edits.proofs.JoinLaws.{new, few, room, small, sizes, joined}
use Rattle.edits.proofs.TableLaws.{few-cells}
use borrow.Author.Rules.{rules}
use Rattle.edits.proofs.rows.join.Statement.{statement}
use Rattle.edits.proofs.rows.join.Tie as tie
use Rattle.limits.specs.Limits.{most_table_cells}

-- once both edges are known
module _ (c : tie.After-edge-end) where
  abbrev start : tie.Start
  start = c.before.before.before.before.before.before

  abbrev cells : List ℕ
  cells = start.args.cells.now

  sizes-here : Sizes cells start.args.row.now c.edge-start.result c.edge-end.result
      (length (cells_in (new start.requires)))
  sizes-here = sizes start.requires c.edge-start.ensures c.edge-end.ensures

  few-here : length (cells_in (new start.requires)) ≤ most_table_cells
  few-here = small start.requires

edge-requires : tie.Need-edge-start-requires
edge-requires c κs = few c.requires

add-edge : tie.Need-overflow_add-at
add-edge c = search rules

edge-requires-2 : tie.Need-edge-end-requires
edge-requires-2 c κs = few c.requires

add-rest : tie.Need-overflow_add-rest
add-rest c = omega (arith, (sizes-here c).all, few-here c)

slice-aggregate-copy : tie.Need-slice_bounds-copy-end
slice-aggregate-copy c =
    let e = c.before in
    sym (length-take-le e.edge-start.result (cells e) (omega (arith, (sizes-here e).order, (sizes-here e).within)))

copy-requires : tie.Need-copy-requires
copy-requires c κs =
    let e = c.before in
    omega (arith, (sizes-here e).all, few-here e, room (start e).requires, length-take e.edge-start.result (cells e))

copy-requires-2 : tie.Need-copy-requires-2
copy-requires-2 c κs =
    let e = c.before.before.before.before.before in
    omega (arith, (sizes-here e).all, few-here e, room (start e).requires)

mul-copy : tie.Need-offset_bounds-cells-end
mul-copy c =
    let e = c.before.before.before.before.before.before.before.before.before in
    omega (arith, (sizes-here e).within, few-cells (start e).requires.rows)

sub-copy : tie.Need-slice_bounds-copy-count
sub-copy c = (sizes-here c.before.before.before.before.before.before.before.before.before).within

part-copy-start : tie.Need-slice_bounds-copy-start
part-copy-start c = (sizes-here c.before.before.before.before.before.before.before.before.before).within

part-copy-end : tie.Need-slice_bounds-copy-end-2
part-copy-end c = search rules

copy-requires-3 : tie.Need-copy-requires-3
copy-requires-3 c κs =
    let e = c.before.before.before.before.before.before.before.before.before.before in
    omega (
      arith,
      (sizes-here e).all,
      few-here e,
      room (start e).requires,
      length-drop e.edge-end.result (cells e),
      length-take (length (cells e) - e.edge-end.result) (drop e.edge-end.result (cells e)),
    )

-- from where the third part is stored back to where both edges are known
abbrev edges : tie.After-copy-3 → tie.After-edge-end
edges c = c.before.before.before.before.before.before.before.before.before.before.before

count-with-requires : tie.Need-count_with-requires
count-with-requires c κs = (start (edges c.before.before.before)).requires.low

put-requires : tie.Need-put-requires
put-requires c κs =
    let g = (start (edges c.before.before.before.before)).requires in
    (omega (arith, room g), omega (arith, c.count_with.ensures, g.low, few g))

sub-result : tie.Need-overflow_sub-result
sub-result c = (sizes-here (edges c.before.before.before.before.before.before.before)).within

add-result : tie.Need-overflow_add-result
add-result c =
    let e = edges c.before.before.before.before.before.before.before in
    omega (arith, (sizes-here e).all, few-here e)

same_length : tie.Need-shape_of-next
same_length c = search rules

returns : tie.Need-returns
returns c =
    let r = c.before.before.before.before.before.before.before in
    let q = r.before.before.before.before.before in
    let p = q in
    let e = edges r in
    λ g. joined g e.edge-start.ensures e.edge-end.ensures p.copy.ensures q.copy-2.ensures r.copy-3.ensures
    c.put.ensures c.count_with.ensures refl

pub join_spec : {M : Type 1} → statement M
join_spec =
    tie.close
    (tie.spec
    edge-requires
    add-edge
    edge-requires-2
    add-rest
    slice-aggregate-copy
    copy-requires
    copy-requires-2
    mul-copy
    sub-copy
    part-copy-start
    part-copy-end
    copy-requires-3
    count-with-requires
    put-requires
    sub-result
    add-result
    same_length
    returns)
