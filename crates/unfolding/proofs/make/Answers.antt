use native.Mathlib.Omega.{arith}
use Rattle.unfolding.proofs.VisitLaws.{first-visits}
use Rattle.unfolding.proofs.make.Goals as goal

pub returns : goal.returns
returns c = λ w. first-visits w (omega arith) (c.put_own-to.ensures w) (c.visit_below.ensures w)
