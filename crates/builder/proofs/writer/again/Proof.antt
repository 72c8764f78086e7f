use mathlib.Core.Path.{refl}
use Rattle.builder.specs.code.Ahead.{onward, anew}
use Rattle.builder.proofs.writer.again.Statement.{statement}
use Rattle.builder.proofs.writer.again.Tie as tie

returns : tie.Need-returns-then-named-eq0
returns c = onward c.if-named-eq0.true refl

returns-2 : tie.Need-returns
returns-2 c = anew refl

pub again_spec : {M : Type 1} → statement M
again_spec = tie.close (tie.spec returns returns-2)
