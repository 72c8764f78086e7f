use native.Mathlib.Omega.{arith}
use Rattle.octets.proofs.PutLaws.{put-nothing}
use Rattle.answertext.proofs.WordLaws.{word_none, word_at}
use Rattle.answertext.proofs.put_listed.Goals as goal

pub returns-then-names-k : goal.returns-then-names-k
returns-then-names-k c =
    let a = c.args in
    rw (word_none a.text.now a.names.now a.k (omega arith)) put-nothing

pub returns : goal.returns
returns c =
    let a = c.args in
    rw (word_at a.text.now a.names.now a.k (omega arith), ← c.word.ensures) c.put_word.ensures
