-- `put_by` meets its contract: a pass into a list, and then they are copied from it or, where it is too short, made once more.
use mathlib.Core.Path.{refl, sym}
use native.Mathlib.Omega.{arith}
use lib.Seq.{length-take-le}
use Rattle.instance.proofs.PassLaws.{found-given, too_large, too_few, enough}
use Rattle.replies.proofs.AskedLaws.{passing}
use Rattle.replies.proofs.PassedLaws.{passed-by, large-by, passed-again, passed-copied}
use Rattle.replies.proofs.put_by.Goals as goal

pub returns-then-room-needed : goal.returns-then-room-needed
returns-then-room-needed c =
    λ plan h f.
    let x = passed-by c.in-Some.is (c.pass.ensures (found-given f).all (passing h f)) in
    too_few f x c.if-room-needed.true c.turned_away-then-room-needed.ensures refl

pub slice_bounds-put_cells-end-then-needed-list : goal.slice_bounds-put_cells-end-then-needed-list
slice_bounds-put_cells-end-then-needed-list c = sym (length-take-le _ _ c.if-needed-list.true)

pub returns-then-needed-list : goal.returns-then-needed-list
returns-then-needed-list c =
    λ plan h f.
    let x = passed-by c.in-Some.is (c.pass.ensures (found-given f).all (passing h f)) in
    enough f (passed-copied x (omega (arith, c.if-needed-list.true, c.pass.auto)) c.put_cells.ensures)
    (omega (arith, c.if-room-needed.false)) refl

pub returns-in-None : goal.returns-in-None
returns-in-None c =
    λ plan h f.
    let l = large-by c.in-None.is (c.pass.ensures (found-given f).all (passing h f)) in
    too_large f l c.turned_away.ensures refl

pub returns-else-needed-list : goal.returns-else-needed-list
returns-else-needed-list c =
    λ plan h f.
    let x = passed-by c.in-Some.is (c.pass.ensures (found-given f).all (passing h f)) in
    let y = passed-again x (c.pass-in-Some.ensures (found-given f).all (passing h f)) in
    enough f y (omega (arith, c.if-room-needed.false)) refl
