use native.Mathlib.Omega.{arith}
use Rattle.termtext.specs.Saying.{words_of}
use Rattle.octets.proofs.PutLaws.{put-nothing, put-put}
use Rattle.answertext.proofs.LevelLaws.{said-over, said-is, terms-are}
use Rattle.answertext.proofs.put_answer.Goals as goal

pub returns-then-cells-gt-REPLY_CELLS : goal.returns-then-cells-gt-REPLY_CELLS
returns-then-cells-gt-REPLY_CELLS c =
    let a = c.args in
    rw (said-over a.text.now a.names.now a.goal.now a.new.now a.p a.cells.now (omega arith)) put-nothing

pub returns : goal.returns
returns c =
    let a = c.args in
    let is = said-is a.text.now a.names.now a.goal.now a.new.now a.p a.cells.now (omega arith) in
    let words = words_of a.text.now a.names.now a.goal.now a.new.now in
    let few = terms-are words a.p.width a.cells.now (omega arith) in
    rw (is, ← few, ← c.part.ensures) (put-put c.put_word-on.ensures (put-put c.put_byte-inside.ensures c.put_terms.ensures))
