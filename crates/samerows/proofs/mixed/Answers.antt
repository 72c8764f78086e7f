use Rattle.std.proofs.Common.{arith}
use Rattle.samerows.specs.Marks.{mix}
use Rattle.samerows.proofs.mixed.Goals as goal

pub returns : goal.returns
unfolding mix
returns c = omega (arith)
