use mathlib.Core.Path.{sym}
use native.Mathlib.Omega.{arith}
use lib.Seq.{length-take-le}
use Rattle.std.proofs.lemmas.Result.{err_from_is_err_and}
use Rattle.goalroom.proofs.RoomLaws.{found, is-refused, short-cells, short-names, given}
use Rattle.goalroom.proofs.read_goal_text.Goals as goal

pub returns-then-cells-n : goal.returns-then-cells-n
returns-then-cells-n c =
    short-cells c.predicate_of-p.ensures (found c.read_goal.ensures c.in_ok-size.was) c.if-cells-n.true
    c.no_room.ensures

pub returns-then-new-k : goal.returns-then-new-k
returns-then-new-k c =
    short-names c.predicate_of-p.ensures (found c.read_goal.ensures c.in_ok-size.was) (omega arith) c.if-new-k.true
    c.no_room-then-new-k.ensures

pub slice_bounds-made-end : goal.slice_bounds-made-end
slice_bounds-made-end c =
    (found c.read_goal.ensures c.in_ok-size.was).inside.0

pub slice_bounds-put_cells-end : goal.slice_bounds-put_cells-end
slice_bounds-put_cells-end c =
    sym (length-take-le _ _ (found c.read_goal.ensures c.in_ok-size.was).inside.0)

pub slice_bounds-list-end : goal.slice_bounds-list-end
slice_bounds-list-end c =
    (found c.read_goal.ensures c.in_ok-size.was).inside.1

pub slice_bounds-put_cells-end-2 : goal.slice_bounds-put_cells-end-2
slice_bounds-put_cells-end-2 c =
    sym (length-take-le _ _ (found c.read_goal.ensures c.in_ok-size.was).inside.1)

pub returns : goal.returns
returns c =
    given c.predicate_of-p.ensures (found c.read_goal.ensures c.in_ok-size.was) (omega arith) (omega arith)
    c.put_cells.ensures c.put_cells-2.ensures

pub returns-in_err-size : goal.returns-in_err-size
returns-in_err-size c =
    let p = err_from_is_err_and c.from_residual.result c.from_residual.ensures.1 in
    rw (p.1, p.2) (is-refused c.predicate_of-p.ensures c.read_goal.ensures c.in_err-size.was)
