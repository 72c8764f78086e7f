use Rattle.std.proofs.Common.{arith, add-one}
use Rattle.paircosts.proofs.FillLaws.{filled-after, last-at, finished}
use Rattle.paircosts.proofs.arrays.pairs_again.Goals as goal

pub pairs_to-requires : goal.pairs_to-requires
pairs_to-requires c =
    last-at c.requires c.loop-number-test.true c.row_end.ensures (omega arith) (c.loop-number.invariant c.requires)

pub loop-number-preserved : goal.loop-number-preserved
loop-number-preserved c = λ t.
    rw (add-one c.loop-number.number)
    (filled-after t (c.pairs_to.ensures (last-at t c.loop-number-test.true c.row_end.ensures (omega arith) (c.loop-number.invariant t))))

pub returns : goal.returns
returns c = λ t. finished t c.loop-number-test.false (c.loop-number.invariant t)
