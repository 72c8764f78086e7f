use native.Mathlib.Omega.{arith}
use Rattle.octets.proofs.PutLaws.{put-nothing}
use Rattle.termtext.specs.Saying.{words_of}
use Rattle.answertext.proofs.LevelLaws.{terms-over, terms-are}
use Rattle.answertext.proofs.put_terms.Goals as goal

pub returns-then-cells-gt-REPLY_CELLS : goal.returns-then-cells-gt-REPLY_CELLS
returns-then-cells-gt-REPLY_CELLS c =
    let a = c.args in
    rw (terms-over (words_of a.text.now a.names.now a.goal.now a.new.now) a.width a.cells.now (omega arith)) put-nothing

pub returns-then-cells-lt64 : goal.returns-then-cells-lt64
returns-then-cells-lt64 c =
    let a = c.args in
    rw (terms-are (words_of a.text.now a.names.now a.goal.now a.new.now) a.width a.cells.now (omega (arith, c.if-cells-gt-REPLY_CELLS.false)))
    c.put_counted.ensures

pub returns : goal.returns
returns c =
    let a = c.args in
    rw (terms-are (words_of a.text.now a.names.now a.goal.now a.new.now) a.width a.cells.now (omega (arith, c.if-cells-gt-REPLY_CELLS.false)))
    c.put_counted-2.ensures
