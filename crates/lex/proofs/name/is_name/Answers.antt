use native.Mathlib.Omega.{arith}
use Rattle.lex.proofs.NameLaws.{part-said}
use Rattle.lex.proofs.name.is_name.Goals as goal

pub returns : goal.returns
returns c =
    let a = c.args in
    part-said a.text.now a.start a.bytes c.lower_name.result (omega arith) c.lower_name.ensures
