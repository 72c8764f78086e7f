use Rattle.std.proofs.Common.{sym}
use Rattle.plannotes.proofs.PlacesLaws.{last_none, last_some}
use Rattle.plannotes.proofs.places.last_new.Goals as goal

pub returns-then-a-eq0 : goal.returns-then-a-eq0
returns-then-a-eq0 c = sym (last_none _ _ _ c.if-a-eq0.true)

pub returns-else-a-eq0 : goal.returns-else-a-eq0
returns-else-a-eq0 c = sym (last_some _ _ _ c.if-a-eq0.false)
