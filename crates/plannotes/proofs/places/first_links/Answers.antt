use Rattle.std.proofs.Common.{◌≡◌, ◌+◌, ◌-◌, ℕ, arith, refl}
use Rattle.term.proofs.Lists.{store-next, store-end}
use Rattle.table.specs.Table.{up_from}
use Rattle.plannotes.proofs.PlacesLaws.{up_none, up_more}
use Rattle.plannotes.proofs.places.first_links.Goals as goal

pub loop-s-init : goal.loop-s-init
unfolding up_from
loop-s-init c = refl

pub loop-s-preserved : goal.loop-s-preserved
loop-s-preserved c =
    let l = c.loop-s in
    let e : 64 - l.s - 1 ≡ 64 - (l.s + 1) = omega arith in
    rw e at (store-next l.links _ _ _ l.s (l.s + 1) (up_more (l.s + 1) (64 - l.s) (omega arith)) l.invariant)

pub returns : goal.returns
returns c = let l = c.loop-s in store-end l.links _ _ l.s (up_none (l.s + 1) (64 - l.s) (omega arith)) l.invariant
