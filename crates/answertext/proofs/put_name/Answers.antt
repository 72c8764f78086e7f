use native.Mathlib.Omega.{arith}
use Rattle.termtext.specs.Saying.{words_in}
use Rattle.answertext.proofs.WordLaws.{word_first, word-second}
use Rattle.answertext.proofs.put_name.Goals as goal

pub returns-then-k-names : goal.returns-then-k-names
returns-then-k-names c =
    let d = c.args.words.now in
    rw (word_first d.text.now d.names.now (words_in d.goal.now d.new.now) c.args.k (omega arith)) c.put_listed.ensures

pub returns : goal.returns
returns c =
    let d = c.args.words.now in
    rw (word-second d.text.now d.names.now (words_in d.goal.now d.new.now) c.args.k (omega arith)) c.put_listed-2.ensures
