use Prim.Native.Nat.{◌+◌, ◌/◌, ◌%◌}
use mathlib.Core.Path.{ap, ◌∙◌}
use native.Mathlib.Omega.{arith}
use Rattle.cell.specs.Same.{same}
use Rattle.lex.proofs.NameLaws.{part-is}
use Rattle.texttable.proofs.tree.is_word.Goals as goal

pub returns : goal.returns
returns c =
    let a = c.args in
    let from = a.listed % 65536 in
    c.same_bytes.ensures ∙ ap (same a.word.now) (part-is a.text.now from (from + a.listed / 65536) (omega arith) (omega arith))
