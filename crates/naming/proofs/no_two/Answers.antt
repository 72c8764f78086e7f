use mathlib.Core.Path.{◌≡◌}
use native.Mathlib.Omega.{arith}
use lib.ListN.{length}
use Rattle.naming.proofs.ApartLaws.{apart_none, apart_more, apart-not}
use Rattle.naming.proofs.no_two.Goals as goal

pub loop-k-init : goal.loop-k-init
loop-k-init c = let a = c.args in (omega arith, apart_none a.text.now a.names.now)

pub returns-then-not-fresh : goal.returns-then-not-fresh
returns-then-not-fresh c =
    let a = c.args in
    let l = c.loop-k in
    apart-not a.text.now a.names.now l.k c.fresh.result (omega arith) c.fresh.ensures c.if-not-fresh.true

pub loop-k-preserved : goal.loop-k-preserved
loop-k-preserved c =
    let a = c.args in
    let l = c.loop-k in
    (omega arith, apart_more a.text.now a.names.now l.k c.fresh.result l.invariant.1 c.fresh.ensures c.if-not-fresh.false)

pub returns : goal.returns
returns c =
    let a = c.args in
    let l = c.loop-k in
    let q : l.k ≡ length a.names.now = omega arith in
    rw q at l.invariant.1
