use Rattle.std.proofs.Common.{arith}
use lib.Seq.{take_all}
use Rattle.term.specs.Unify.{inst}
use Rattle.octets.proofs.PutLaws.{put-nothing}
use Rattle.instance.proofs.RewriteLaws.{put-more, put_next, put-over}
use Rattle.rewrite.proofs.put_with.Goals as goal

pub loop-c-init : goal.loop-c-init
unfolding inst
loop-c-init c = put-nothing

pub returns-then-out-on : goal.returns-then-out-on
returns-then-out-on c =
    let l = c.loop-c in
    let s = c.args in
    put-over s.v s.term.now s.cells.now l.c-index (omega (arith, c.if-out-on.true)) l.invariant

pub loop-c-preserved : goal.loop-c-preserved
loop-c-preserved c =
    let l = c.loop-c in
    let s = c.args in
    let e = put_next s.cells.now l.c-index (omega arith) s.v s.term.now in
    put-more e l.invariant c.put_swapped-on.ensures

pub returns : goal.returns
returns c =
    let l = c.loop-c in
    rw (take_all l.c-index c.args.cells.now (omega arith)) at l.invariant
