use Rattle.std.proofs.Common.{◌<◌, arith, refl, ◌∙◌}
use Rattle.paircosts.specs.code.Reading.{Range}
use Rattle.paircosts.proofs.ReadLaws.{CheapAt, cheap_start, cheap-end, turn-open, turn-closed, turn-asks}
use Rattle.paircosts.proofs.arrays.Sheet.cheapest.Goals as goal
use Rattle.paircosts.proofs.arrays.Sheet.cheapest.Goals.{then-s-ne1, else-s-ne1}

-- what one turn does
turned : (c : goal.After-after-q)
    → (g : Range c.args.self.now.marks.now c.args.self.now.kept.now c.args.self.now.notes.now c.args.range c.args.base c.args.found)
    → CheapAt g c.if-s-ne1.best c.if-s-ne1.place c.after-q.result × (c.loop-q.q < c.after-q.result)
turned c g =
    let n = c.note_at-s in
    elim c.if-s-ne1.branch [
      | then-s-ne1 w ↦ turn-open g c.loop-q-test.true (c.loop-q.invariant g) n.result n.ensures c.after-q.result c.after-q.ensures
          w.if-s-ne1.true w.open_cost.result w.open_cost.ensures c.if-s-ne1.best (w.best-is ∙ w.consider-best.ensures) c.if-s-ne1.place w.place-is
      | else-s-ne1 w ↦ turn-closed g c.loop-q-test.true (c.loop-q.invariant g) n.result n.ensures c.after-q.result c.after-q.ensures
          w.if-s-ne1.false c.if-s-ne1.best w.best-is c.if-s-ne1.place w.place-is
    ]

pub loop-q-init : goal.loop-q-init
loop-q-init c = λ g. cheap_start g

pub open_cost-requires : goal.open_cost-requires
open_cost-requires c =
    turn-asks c.requires c.loop-q-test.true (c.loop-q.invariant c.requires) c.note_at-s.result c.note_at-s.ensures _ refl c.if-s-ne1.true

pub overflow_add-place : goal.overflow_add-place
overflow_add-place c = omega (arith, c.loop-q-test.true, c.requires.within.0, (c.loop-q.invariant c.requires).small)

pub after-q-requires : goal.after-q-requires
after-q-requires c = omega (arith, c.loop-q-test.true, c.requires.within.0)

pub loop-q-smaller : goal.loop-q-smaller
loop-q-smaller c = omega (arith, c.loop-q-test.true, (turned c c.requires).1)

pub loop-q-preserved : goal.loop-q-preserved
loop-q-preserved c = λ g. (turned c g).0

pub returns : goal.returns
returns c = λ g. cheap-end g c.loop-q-test.false (c.loop-q.invariant g)
