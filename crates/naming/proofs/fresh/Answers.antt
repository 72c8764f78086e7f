use mathlib.Core.Path.{◌≡◌, sym, ◌∙◌}
use native.Mathlib.Omega.{arith}
use Rattle.naming.proofs.ApartLaws.{fresh-none, fresh-more, fresh-not}
use Rattle.naming.proofs.fresh.Goals as goal

pub loop-i-init : goal.loop-i-init
loop-i-init c = let a = c.args in (omega arith, fresh-none a.text.now a.names.now a.k)

pub returns-then-same_bytes : goal.returns-then-same_bytes
returns-then-same_bytes c =
    let a = c.args in
    let l = c.loop-i in
    let u = c.word.ensures in
    let v = c.word-in-loop-i.ensures in
    let e = c.same_bytes.ensures in
    fresh-not a.text.now a.names.now a.k l.i (omega arith) (sym (rw (u, v) at e) ∙ c.if-same_bytes.true)

pub loop-i-preserved : goal.loop-i-preserved
loop-i-preserved c =
    let a = c.args in
    let l = c.loop-i in
    let u = c.word.ensures in
    let v = c.word-in-loop-i.ensures in
    let e = c.same_bytes.ensures in
    (omega arith, fresh-more a.text.now a.names.now a.k l.i l.invariant.1 (sym (rw (u, v) at e) ∙ c.if-same_bytes.false))

pub returns : goal.returns
returns c =
    let a = c.args in
    let l = c.loop-i in
    let q : l.i ≡ a.k = omega arith in
    rw q at l.invariant.1
