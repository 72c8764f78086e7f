use Rattle.std.proofs.Common.{◌≡◌, ◌+◌, ◌-◌, refl, arith}
use Rattle.term.proofs.Lists.{store-next, store-end}
use Rattle.walking.proofs.ListLaws.{up_none, up_more}
use Rattle.run.proofs.walk.put_rows.Goals as goal

pub loop-k-init : goal.loop-k-init
loop-k-init c =
    let a = c.args in
    let x : a.at + 0 ≡ a.at = omega arith in
    let y : a.row + 0 ≡ a.row = omega arith in
    let z : a.n - 0 ≡ a.n = omega arith in
    λ low. rw (x, y, z) refl

pub loop-k-preserved : goal.loop-k-preserved
loop-k-preserved c = λ low.
    let l = c.loop-k in
    let a = c.args in
    let x : a.at + (l.k + 1) ≡ a.at + l.k + 1 = omega arith in
    let y : a.row + (l.k + 1) ≡ a.row + l.k + 1 = omega arith in
    let z : a.n - (l.k + 1) ≡ a.n - l.k - 1 = omega arith in
    rw (c.node.ensures.1 (omega arith), x, y, z)
    (store-next l.room _ _ _ (a.at + l.k) (a.row + l.k) (up_more (a.row + l.k) (a.n - l.k) (omega arith)) (l.invariant low))

pub returns : goal.returns
returns c = λ fit low.
    let l = c.loop-k in
    let a = c.args in
    store-end l.room _ _ (a.at + l.k) (up_none (a.row + l.k) (a.n - l.k) (omega arith)) (l.invariant low)
