use Rattle.std.proofs.Common.{◌<◌, arith}
use Rattle.paircosts.specs.code.Reading.{Column}
use Rattle.paircosts.proofs.PartLaws.{PartAt, part-start, part_end, part-open, part-closed}
use Rattle.paircosts.proofs.arrays.Sheet.part_in.Goals as goal
use Rattle.paircosts.proofs.arrays.Sheet.part_in.Goals.{then-s-ne1, else-s-ne1}

-- what one turn does
turned : (c : goal.After-after-q) → (g : Column c.args.self.now.marks.now c.args.self.now.notes.now c.args.start c.args.end c.args.part)
    → PartAt g c.with_closed-inside.result c.if-s-ne1.only c.after-q.result × (c.loop-q.q < c.after-q.result)
turned c g =
    let n = c.note_at-s in
    let x = c.loop-q.invariant g in
    elim c.if-s-ne1.branch [
      | then-s-ne1 u ↦ part-open g c.loop-q-test.true x n.result n.ensures c.with_closed-inside.result c.with_closed-inside.ensures c.after-q.result
          c.after-q.ensures u.if-s-ne1.true c.if-s-ne1.only u.only-is
      | else-s-ne1 u ↦ part-closed g c.loop-q-test.true x n.result n.ensures c.with_closed-inside.result c.with_closed-inside.ensures c.after-q.result
          c.after-q.ensures u.if-s-ne1.false c.if-s-ne1.only u.only-is
    ]

pub loop-q-init : goal.loop-q-init
loop-q-init c = λ g. part-start g

pub with_closed-inside-requires : goal.with_closed-inside-requires
with_closed-inside-requires c = (
  omega (arith, c.loop-q-test.true, c.requires.within),
  omega (arith, c.loop-q-test.true, c.requires.within, (c.loop-q.invariant c.requires).light),
)

pub after-q-requires : goal.after-q-requires
after-q-requires c = omega (arith, c.loop-q-test.true, c.requires.within)

pub loop-q-smaller : goal.loop-q-smaller
loop-q-smaller c = omega (arith, c.loop-q-test.true, (turned c c.requires).1)

pub loop-q-preserved : goal.loop-q-preserved
loop-q-preserved c = λ g. (turned c g).0

pub returns : goal.returns
returns c = λ g. part_end g c.loop-q-test.false (c.loop-q.invariant g)
