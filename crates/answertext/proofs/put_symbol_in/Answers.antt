use Rattle.octets.proofs.PutLaws.{put-put, put-nothing}
use Rattle.termtext.specs.Saying.{words_of}
use Rattle.answertext.proofs.WordLaws.{word-variable, word-name, word_number, word-refused}
use Rattle.answertext.proofs.put_symbol_in.Goals as goal

pub returns-in-Variable : goal.returns-in-Variable
returns-in-Variable c =
    let a = c.args in
    let d = a.words.now in
    let words = words_of d.text.now d.names.now d.goal.now d.new.now in
    rw (word-variable words a.c _ c.shape_of.ensures _ c.in-Variable.is)
    (put-put c.put_byte-on.ensures c.put_decimal.ensures)

pub returns-in-Name : goal.returns-in-Name
returns-in-Name c =
    let a = c.args in
    let d = a.words.now in
    let words = words_of d.text.now d.names.now d.goal.now d.new.now in
    rw (word-name words a.c _ c.shape_of.ensures _ _ c.in-Name.is) c.put_name.ensures

pub returns-in-Number : goal.returns-in-Number
returns-in-Number c =
    let a = c.args in
    let d = a.words.now in
    let words = words_of d.text.now d.names.now d.goal.now d.new.now in
    rw (word_number words a.c _ c.shape_of.ensures _ c.in-Number.is) c.put_value.ensures

pub returns-in-Refused : goal.returns-in-Refused
returns-in-Refused c =
    let a = c.args in
    let d = a.words.now in
    let words = words_of d.text.now d.names.now d.goal.now d.new.now in
    rw (word-refused words a.c _ c.shape_of.ensures c.in-Refused.is) put-nothing
