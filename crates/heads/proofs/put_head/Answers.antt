use native.Mathlib.Omega.{arith}
use lib.ListN.{get_or}
use Rattle.octets.proofs.PutLaws.{put-begins, put-part, put-ends, put-length}
use Rattle.clauses.specs.Translate.{head_of}
use Rattle.heads.proofs.HeadLaws.{said-next, said-none, one_at_most}
use Rattle.heads.proofs.put_head.Goals as goal

pub loop-c-init : goal.loop-c-init
unfolding head_of
loop-c-init c = (omega arith, omega arith, put-begins)

pub overflow_add-v : goal.overflow_add-v
overflow_add-v c =
    let l = c.loop-c in
    omega (arith, c.requires, c.open_places-v.ensures, one_at_most (get_or c.args.head.now l.c-index 0))

pub loop-c-preserved : goal.loop-c-preserved
loop-c-preserved c =
    let l = c.loop-c in
    let K = c.args.head.now in
    let step = said-next K l.c-index l.v (omega arith) (omega (arith, c.requires)) in
    let here = put-part (rw step at l.invariant.2) (rw c.said.ensures at c.put_cell-on.ensures) in
    (omega arith, omega (arith, c.open_places-v.ensures, one_at_most (get_or K l.c-index 0)), rw c.open_places-v.ensures here)

pub shape_of-out : goal.shape_of-out
shape_of-out c = put-length c.loop-c.invariant.2.puts

pub returns : goal.returns
returns c =
    let l = c.loop-c in
    put-ends (rw (said-none c.args.head.now l.c-index l.v (omega arith)) at l.invariant.2)
