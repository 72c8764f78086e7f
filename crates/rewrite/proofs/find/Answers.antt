use Rattle.std.proofs.Common.{◌≤◌, length, arith}
use Rattle.instance.proofs.NumberLaws.{place_here, place-there, place_none}
use Rattle.rewrite.proofs.find.Goals as goal

pub loop-i-init : goal.loop-i-init
loop-i-init c = omega arith

pub returns-then-met-i : goal.returns-then-met-i
returns-then-met-i c =
    let l = c.loop-i in
    let s = c.args in
    let few : s.n ≤ length s.met.now = omega (arith, c.requires.0, c.requires.1) in
    omega (arith, l.invariant, place_here s.v s.met.now l.i s.n (omega arith) few c.if-met-i.true)

pub loop-i-preserved : goal.loop-i-preserved
loop-i-preserved c =
    let l = c.loop-i in
    let s = c.args in
    let few : s.n ≤ length s.met.now = omega (arith, c.requires.0, c.requires.1) in
    omega (arith, l.invariant, place-there s.v s.met.now l.i s.n (omega arith) few c.if-met-i.false)

pub returns : goal.returns
returns c =
    let l = c.loop-i in
    let s = c.args in
    omega (arith, l.invariant, place_none s.v s.met.now l.i s.n (omega arith))
