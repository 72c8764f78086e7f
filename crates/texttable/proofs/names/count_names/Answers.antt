use borrow.Author.Tests.{not-true, not-false}
use Rattle.texttable.proofs.NameLaws.{none-counted, batch-counted, all-counted}
use Rattle.symbols.proofs.LeftLaws.{start-reads}
use borrow.Author.Rules.{rules}
use native.Mathlib.Omega.{arith}
use Rattle.texttable.proofs.names.count_names.Goals as goal

pub loop-batch-init : goal.loop-batch-init
loop-batch-init c =
    let b = start-reads c.begin-at.ensures in
    (omega arith, b.within, none-counted c.args.text.now c.begin-at.result b)

pub overflow_add-total : goal.overflow_add-total
overflow_add-total c =
    let b = c.count_batch-batch.ensures in
    let l = c.loop-batch in
    let h = b.within l.invariant.1 in
    search rules

pub returns-then-not-batch : goal.returns-then-not-batch
returns-then-not-batch c =
    let l = c.loop-batch in
    let b = c.count_batch-batch in
    λ facts e. all-counted c.args.text.now l.at l.total b.result facts
    b.ensures (not-true b.result.more c.if-not-batch.true) (l.invariant.2 facts e)

pub loop-batch-smaller : goal.loop-batch-smaller
loop-batch-smaller c =
    let l = c.loop-batch in
    let b = c.count_batch-batch in
    omega (arith, b.ensures.further (not-false b.result.more c.if-not-batch.false), b.ensures.within l.invariant.1)

pub loop-batch-preserved : goal.loop-batch-preserved
loop-batch-preserved c =
    let l = c.loop-batch in
    let b = c.count_batch-batch in (
      omega (arith, b.ensures.on, l.invariant.0),
      b.ensures.within l.invariant.1,
      λ facts e. batch-counted c.args.text.now l.at l.total b.result
          facts b.ensures (l.invariant.2 facts e),
    )
