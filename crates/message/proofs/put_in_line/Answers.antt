use native.Mathlib.Omega.{arith}
use Rattle.octets.proofs.PutLaws.{put-begins, put-part, put-ends, put-length}
use Rattle.message.specs.Message.{in_line}
use Rattle.message.proofs.LineLaws.{bytes_on, bytes-done}
use Rattle.message.proofs.put_in_line.Goals as goal

pub loop-byte-init : goal.loop-byte-init
loop-byte-init c = (omega arith, put-begins)

pub loop-byte-preserved : goal.loop-byte-preserved
loop-byte-preserved c =
    let l = c.loop-byte in
    let goal = c.args.goal.now in
    let next = bytes_on in_line goal l.byte-index (omega arith) in
    let byte = c.put_byte-on.ensures in
    (omega arith, put-part (rw next at l.invariant.1) (rw c.in_line.ensures at byte))

pub shape_of-out : goal.shape_of-out
shape_of-out c = put-length c.loop-byte.invariant.1.puts

pub returns : goal.returns
returns c =
    let l = c.loop-byte in
    let goal = c.args.goal.now in
    put-ends (rw (bytes-done in_line goal l.byte-index (omega arith)) at l.invariant.1)
