use mathlib.Core.Path.{sym, ap, ◌∙◌}
use native.Mathlib.Omega.{arith}
use lib.ListN.{length}
use Rattle.termtext.specs.Saying.{words_of}
use Rattle.answertext.proofs.WordLaws.{word-name, word-refused}
use Rattle.answertext.proofs.BytesLaws.{variable-few, number-few, short-counted}
use Rattle.answertext.proofs.measure.symbol_bytes.Goals as goal

pub returns-in-Variable : goal.returns-in-Variable
returns-in-Variable c =
    let a = c.args in
    let d = a.words.now in
    let words = words_of d.text.now d.names.now d.goal.now d.new.now in
    short-counted c.put_symbol_in.ensures (variable-few words a.c _ c.shape_of.ensures _ c.in-Variable.is) (omega arith)

pub returns-in-Name : goal.returns-in-Name
returns-in-Name c =
    let a = c.args in
    let d = a.words.now in
    let words = words_of d.text.now d.names.now d.goal.now d.new.now in
    let b = c.name_bytes.ensures in
    (b.0 ∙ sym (ap length (word-name words a.c _ c.shape_of.ensures _ _ c.in-Name.is)), b.1)

pub returns-in-Number : goal.returns-in-Number
returns-in-Number c =
    let a = c.args in
    let d = a.words.now in
    let words = words_of d.text.now d.names.now d.goal.now d.new.now in
    short-counted c.put_symbol_in-in-Number.ensures (number-few words a.c _ c.shape_of.ensures _ c.in-Number.is) (omega arith)

pub returns-in-Refused : goal.returns-in-Refused
returns-in-Refused c =
    let a = c.args in
    let d = a.words.now in
    let words = words_of d.text.now d.names.now d.goal.now d.new.now in
    (sym (ap length (word-refused words a.c _ c.shape_of.ensures c.in-Refused.is)), omega arith)
