use Rattle.linecut.specs.Cut.{in_remark}
use Rattle.linecut.proofs.in_remark.Statement.{statement}
use Rattle.linecut.proofs.in_remark.Tie as tie

returns : tie.Need-returns-then-remark
unfolding in_remark
returns c = rw c.if-remark.true

returns-2 : tie.Need-returns
unfolding in_remark
returns-2 c = rw c.if-remark.false

pub in_remark_spec : {M : Type 1} → statement M
in_remark_spec = tie.close (tie.spec returns returns-2)
