use native.Mathlib.Omega.{arith}
use Rattle.octets.proofs.PutLaws.{put-begins, put-part, put-ends, put-length}
use Rattle.textlines.specs.Lines.{name_line}
use Rattle.textlines.proofs.LineLaws.{lines-on, lines-done}
use Rattle.textlines.proofs.LengthLaws.{names-few}
use Rattle.textlines.proofs.lines.put_names.Goals as goal

pub loop-name-init : goal.loop-name-init
loop-name-init c = (omega arith, put-begins)

pub loop-name-preserved : goal.loop-name-preserved
loop-name-preserved c =
    let l = c.loop-name in
    let names = c.args.names.now in
    let next = lines-on name_line 0 names l.name-index (omega arith) in
    (omega arith, put-part (rw next at l.invariant.1) c.put_name-on.ensures)

pub shape_of-out : goal.shape_of-out
shape_of-out c = put-length c.loop-name.invariant.1.puts

pub returns : goal.returns
returns c =
    let l = c.loop-name in
    let names = c.args.names.now in
    let done = lines-done name_line 0 names l.name-index (omega arith) in
    record { puts = put-ends (rw done at l.invariant.1); few = names-few names (λ i. (c.type_inv.names i).fits) }
