use Rattle.std.proofs.Common.{◌≡◌, ◌-◌, ◌+◌, ℕ, arith, sym, ◌∙◌}
use Rattle.plannotes.specs.code.Places.{steps, hop_of}
use Rattle.plannotes.proofs.PlacesLaws.{steps_all, hop-none, hop-more}
use Rattle.plannotes.proofs.places.hop.Goals as goal

pub bounds-links-slot : goal.bounds-links-slot
bounds-links-slot c =
    (steps_all c.args.links.now (c.args.i - c.loop.counter) c.loop.slot (omega arith) c.loop.invariant.low).0

pub loop-preserved : goal.loop-preserved
loop-preserved c =
    let s = c.args.links.now in
    let left : ℕ = c.args.i - c.loop.counter in
    let h = steps_all s left c.loop.slot (omega arith) c.loop.invariant.low in
    let n : c.args.i - (c.loop.counter + 1) ≡ left - 1 = omega arith in
    rw (n, c.from-slot.ensures) (record { low = h.1; ends = sym (hop-more s left c.loop.slot (omega arith)) ∙ c.loop.invariant.ends })

pub returns : goal.returns
returns c = sym (hop-none c.args.links.now (c.args.i - c.loop.counter) c.loop.slot (omega arith)) ∙ c.loop.invariant.ends
