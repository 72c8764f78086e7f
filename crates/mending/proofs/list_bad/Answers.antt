use Prim.Native.Nat.{◌+◌}
use mathlib.Core.Path.{refl, ap}
use native.Mathlib.Omega.{arith}
use Rattle.octets.proofs.PutLaws.{put-length}
use Rattle.mending.proofs.ListLaws.{list-begins, list-next, list-ends, list-bound}
use borrow.Author.Rules.{rules}
use Rattle.mending.proofs.list_bad.Goals as goal

pub loop-i-init : goal.loop-i-init
loop-i-init c =
    let a = c.args in
    (c.blocks_of-total.ensures, refl, list-begins a.file.now a.room.now a.from)

pub overflow_add-i : goal.overflow_add-i
overflow_add-i c =
    let e = c.loop-i.invariant.0 in
    let h = list-bound c.args.file.now c.loop-i.i (omega (arith, e)) in
    omega (arith, e, c.sound_run.ensures.many, h)

pub loop-i-preserved : goal.loop-i-preserved
loop-i-preserved c =
    let l = c.loop-i in
    let p = c.put_number-on in
    let many = ap (λ k. l.i + 1 + k) c.sound_run.ensures.many in
    (l.invariant.0, search rules, list-next l.invariant.2 (omega (arith, l.invariant.0)) p.ensures many)

pub shape_of-room : goal.shape_of-room
shape_of-room c = put-length c.loop-i.invariant.2.puts.puts

pub returns : goal.returns
returns c = list-ends c.loop-i.invariant.2 (omega (arith, c.loop-i.invariant.0))
