use native.Mathlib.Omega.{arith}
use Rattle.texttable.proofs.tree.mix_at.Goals as goal

pub returns-then-d-eq0 : goal.returns-then-d-eq0
returns-then-d-eq0 c = c.mixed.ensures

pub returns-else-d-eq0 : goal.returns-else-d-eq0
returns-else-d-eq0 c = c.requires (omega (arith, c.if-d-eq0.false))
