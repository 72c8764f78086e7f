use Rattle.std.proofs.Common.{arith}
use Rattle.paircosts.proofs.PartLaws.{parts-start, parts-end, part-on, part-column, part-read, part-passed}
use Rattle.paircosts.proofs.arrays.Sheet.part_named.Goals as goal
use Rattle.paircosts.proofs.arrays.Sheet.part_named.Goals.{then-rest-eq1, else-rest-eq1}

pub loop-start-init : goal.loop-start-init
loop-start-init c = λ g. parts-start g

pub offset_bounds-self-start : goal.offset_bounds-self-start
offset_bounds-self-start c = omega (arith, c.loop-start-test.true, c.requires.within)

pub bounds-self-start : goal.bounds-self-start
bounds-self-start c = omega (arith, c.loop-start-test.true, c.requires.within)

pub part_in-part-requires : goal.part_in-part-requires
part_in-part-requires c =
    part-column c.requires c.loop-start-test.true (c.loop-start.invariant c.requires) c.end_in-end.result c.end_in-end.ensures c.if-rest-eq1.true

pub loop-start-smaller : goal.loop-start-smaller
loop-start-smaller c =
    omega (
      arith,
      c.loop-start-test.true,
      (part-on c.requires c.loop-start-test.true (c.loop-start.invariant c.requires) c.end_in-end.result c.end_in-end.ensures).0,
    )

pub loop-start-preserved : goal.loop-start-preserved
loop-start-preserved c = λ g.
    (let h = c.loop-start-test.true in
    let x = c.loop-start.invariant g in
    let e = c.end_in-end in
    elim c.if-rest-eq1.branch [
      | then-rest-eq1 w ↦ part-read g h x e.result e.ensures w.if-rest-eq1.true c.if-rest-eq1.part
          (rw w.part-is (w.part_in-part.ensures (part-column g h x e.result e.ensures w.if-rest-eq1.true)))
      | else-rest-eq1 w ↦ part-passed g h x e.result e.ensures w.if-rest-eq1.false c.if-rest-eq1.part w.part-is
    ])

pub returns : goal.returns
returns c = λ g. parts-end g c.loop-start-test.false (c.loop-start.invariant g)
