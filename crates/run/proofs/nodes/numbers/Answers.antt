use Rattle.std.proofs.Common.{◌≡◌, ◌+◌, ◌-◌, arith}
use native.Mathlib.Nat.{add-zero}
use Rattle.table.specs.Table.{up_from}
use Rattle.term.proofs.Lists.{store-next, store-end}
use Rattle.walking.proofs.ListLaws.{up_none, up_more}
use Rattle.run.proofs.nodes.numbers.Goals as goal

pub loop-r-init : goal.loop-r-init
unfolding up_from
loop-r-init c = rw (add-zero c.args.first)

pub loop-r-preserved : goal.loop-r-preserved
loop-r-preserved c =
    let l = c.loop-r in
    let x = c.args.first in
    let e : 64 - l.r - 1 ≡ 64 - (l.r + 1) = omega arith in
    let f : x + l.r + 1 ≡ x + (l.r + 1) = omega arith in
    rw (e, f) at (store-next l.table _ _ _ l.r (x + l.r) (up_more (x + l.r) (64 - l.r) (omega arith)) l.invariant)

pub returns : goal.returns
returns c =
    let l = c.loop-r in
    store-end l.table _ _ l.r (up_none (c.args.first + l.r) (64 - l.r) (omega arith)) l.invariant
