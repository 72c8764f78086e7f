use mathlib.Core.Path.{refl}
use native.Mathlib.Omega.{arith}
use Rattle.octets.proofs.PutLaws.{put-begins, put-part, put-ends, put-length}
use Rattle.termtext.specs.Saying.{words_of}
use Rattle.answertext.specs.code.Levels.{levels}
use Rattle.answertext.proofs.LevelLaws.{terms-next, terms-done}
use Rattle.answertext.proofs.put_counted.Goals as goal

pub loop-c-init : goal.loop-c-init
loop-c-init c = (omega arith, omega arith, refl, put-begins)

pub loop-c-preserved : goal.loop-c-preserved
loop-c-preserved c =
    let l = c.loop-c in
    let a = c.args in
    let d = a.words.now in
    let words = words_of d.text.now d.names.now d.goal.now d.new.now in
    let k = c.put_mark-next.ensures in
    let arity = c.arity_of.ensures in
    let next = terms-next words (levels l.owed l.depth) a.cells.now l.c-index (omega arith) in
    let here = put-part (rw next at l.invariant.3) c.put_symbol_in-on.ensures in
    (omega arith, omega (arith, k.few), omega (arith, c.put_mark-next.auto, l.invariant.2), rw (k.still, arity) (put-part here (rw arity at k.puts)))

pub shape_of-out : goal.shape_of-out
shape_of-out c = put-length c.loop-c.invariant.3.puts

pub returns : goal.returns
returns c =
    let l = c.loop-c in
    let a = c.args in
    let d = a.words.now in
    let words = words_of d.text.now d.names.now d.goal.now d.new.now in
    put-ends (rw (terms-done words (levels l.owed l.depth) a.cells.now l.c-index (omega arith)) at l.invariant.3)
