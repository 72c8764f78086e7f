use mathlib.Core.Path.{sym, ap, ◌∙◌}
use native.Mathlib.Omega.{arith}
use lib.ListN.{length}
use Rattle.termtext.specs.Saying.{words_in}
use Rattle.answertext.proofs.WordLaws.{word_first, word-second}
use Rattle.answertext.proofs.measure.name_bytes.Goals as goal

pub returns-then-k-names : goal.returns-then-k-names
returns-then-k-names c =
    let d = c.args.words.now in
    let b = c.listed_bytes.ensures in
    (b.0 ∙ sym (ap length (word_first d.text.now d.names.now (words_in d.goal.now d.new.now) c.args.k (omega arith))), b.1)

pub returns : goal.returns
returns c =
    let d = c.args.words.now in
    let b = c.listed_bytes-2.ensures in
    (b.0 ∙ sym (ap length (word-second d.text.now d.names.now (words_in d.goal.now d.new.now) c.args.k (omega arith))), b.1)
