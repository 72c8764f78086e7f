use Rattle.plannotes.proofs.PlacesLaws.{hops-small, before_small, slot_small, last_fits, closed}
use Rattle.plannotes.proofs.places.close.Goals as goal

pub hop-before-requires : goal.hop-before-requires
hop-before-requires c = hops-small c.requires

pub bounds-links-before : goal.bounds-links-before
bounds-links-before c = before_small c.requires _ c.hop-before.ensures

pub bounds-links-slot : goal.bounds-links-slot
bounds-links-slot c = rw c.from-slot.ensures (slot_small c.requires _ c.hop-before.ensures)

pub bounds-links-before-2 : goal.bounds-links-before-2
bounds-links-before-2 c = before_small c.requires _ c.hop-before.ensures

pub bounds-links-last : goal.bounds-links-last
bounds-links-last c = last_fits c.requires _ c.hop-before.ensures _ c.last_new-last.ensures

pub returns : goal.returns
returns c = λ w. closed w _ c.hop-before.ensures _ c.last_new-last.ensures _ c.from-slot.ensures
