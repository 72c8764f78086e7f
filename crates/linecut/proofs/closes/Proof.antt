use Rattle.linecut.specs.Cut.{closes}
use Rattle.linecut.proofs.closes.Statement.{statement}
use Rattle.linecut.proofs.closes.Tie as tie

returns : tie.Need-returns-then-remark
unfolding closes
returns c = rw c.if-remark.true

returns-2 : tie.Need-returns
unfolding closes
returns-2 c = rw c.if-remark.false

pub closes_spec : {M : Type 1} → statement M
closes_spec = tie.close (tie.spec returns returns-2)
