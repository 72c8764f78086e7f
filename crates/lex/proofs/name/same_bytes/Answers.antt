use mathlib.Core.Path.{◌∙◌}
use Rattle.lex.proofs.NameLaws.{same-pointwise}
use Rattle.lex.proofs.name.same_bytes.Goals as goal

pub returns : goal.returns
returns c = c.eq.ensures ∙ same-pointwise c.args.a.now c.args.b.now
