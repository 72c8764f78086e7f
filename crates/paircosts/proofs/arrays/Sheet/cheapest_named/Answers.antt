use Rattle.std.proofs.Common.{◌≡◌, ◌%◌, ℕ, arith, ◌∙◌}
use Rattle.paircosts.proofs.ReadLaws.{named_start, named_end, column-on, column-range, column-read, column-passed}
use Rattle.paircosts.proofs.arrays.Sheet.cheapest_named.Goals as goal
use Rattle.paircosts.proofs.arrays.Sheet.cheapest_named.Goals.{then-rest-eq0, else-rest-eq0}

pub loop-start-init : goal.loop-start-init
loop-start-init c = λ g. named_start g

pub offset_bounds-self-start : goal.offset_bounds-self-start
offset_bounds-self-start c = omega (arith, c.loop-start-test.true, c.requires.within)

pub bounds-self-start : goal.bounds-self-start
bounds-self-start c = omega (arith, c.loop-start-test.true, c.requires.within)

pub passed-found-requires : goal.passed-found-requires
passed-found-requires c = omega (arith, c.loop-start-test.true, c.requires.within, (c.loop-start.invariant c.requires).small)

pub cheapest-found-requires : goal.cheapest-found-requires
cheapest-found-requires c =
    column-range c.requires c.loop-start-test.true (c.loop-start.invariant c.requires) c.end_in-end.result c.end_in-end.ensures
    (omega (arith, c.if-rest-eq0.false))

pub loop-start-smaller : goal.loop-start-smaller
loop-start-smaller c =
    omega (
      arith,
      c.loop-start-test.true,
      (column-on c.requires c.loop-start-test.true (c.loop-start.invariant c.requires) c.end_in-end.result c.end_in-end.ensures).0,
    )

pub loop-start-preserved : goal.loop-start-preserved
loop-start-preserved c = λ g.
    (let h = c.loop-start-test.true in
    let x = c.loop-start.invariant g in
    let e = c.end_in-end in
    elim c.if-rest-eq0.branch [
      | then-rest-eq0 w ↦ column-passed g h x e.result e.ensures w.if-rest-eq0.true c.if-rest-eq0.found (w.found-is ∙ w.passed-found.ensures)
      | else-rest-eq0 w ↦ (let o : c.loop-start.rest % 2 ≡ 1 = omega (arith, w.if-rest-eq0.false) in
          column-read g h x e.result e.ensures o c.if-rest-eq0.found (w.found-is ∙ w.cheapest-found.ensures (column-range g h x e.result e.ensures o)))
    ])

pub returns : goal.returns
returns c = λ g. named_end g c.loop-start-test.false (c.loop-start.invariant g)
