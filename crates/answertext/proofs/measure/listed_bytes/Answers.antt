use mathlib.Core.Path.{sym, ap, ◌∙◌}
use native.Mathlib.Omega.{arith}
use lib.ListN.{length, get_or}
use Rattle.answertext.proofs.WordLaws.{word_none, word_at}
use Rattle.answertext.proofs.BytesLaws.{word-few}
use Rattle.answertext.proofs.measure.listed_bytes.Goals as goal

pub returns-then-names-k : goal.returns-then-names-k
returns-then-names-k c =
    let a = c.args in
    (sym (ap length (word_none a.text.now a.names.now a.k (omega arith))), omega arith)

pub returns : goal.returns
returns c =
    let a = c.args in
    let w = c.word.ensures in (
      ap length (w ∙ sym (word_at a.text.now a.names.now a.k (omega arith))),
      omega (arith, ap length w, word-few a.text.now (get_or a.names.now a.k 0) (c.type_inv.names a.k).fits),
    )
