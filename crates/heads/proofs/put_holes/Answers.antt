use Prim.Native.Nat.{◌-◌}
use mathlib.Core.Path.{◌≡◌}
use native.Mathlib.Omega.{arith}
use Rattle.octets.proofs.PutLaws.{put-begins, put-part, put-ends, put-length}
use Rattle.heads.proofs.HeadLaws.{holes-next, holes-none}
use Rattle.heads.proofs.put_holes.Goals as goal

pub loop-init : goal.loop-init
loop-init c =
    let e : c.args.n - 0 ≡ c.args.n = omega arith in
    (omega arith, rw e put-begins)

pub loop-preserved : goal.loop-preserved
loop-preserved c =
    let l = c.loop in
    let n = c.args.n in
    (omega arith, put-part (rw (holes-next n l.counter (omega arith)) at l.invariant.1) c.put_cell-on.ensures)

pub shape_of-out : goal.shape_of-out
shape_of-out c = put-length c.loop.invariant.1.puts

pub returns : goal.returns
returns c =
    let l = c.loop in
    let n = c.args.n in
    put-ends (rw (holes-none n l.counter (omega arith)) at l.invariant.1)
