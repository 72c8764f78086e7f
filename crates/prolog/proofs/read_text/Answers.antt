use mathlib.Core.Path.{sym, ap}
use Rattle.refusal.specs.Refusal.{turned}
use native.Mathlib.Omega.{arith}
use Rattle.std.proofs.lemmas.Result.{err_from_is_err_and}
use lib.Seq.{length-take-le}
use Rattle.scan.proofs.SaysLaws.{counts-read}
use Rattle.prolog.proofs.EntryLaws.{words-of, words-known, listed-are, counted-are, passed-are, turned-are, names-within, cells-within, cells_fit, names-fit}
use Rattle.prolog.proofs.EntryLaws.{no-room-cells, no-room-names, over-loads, turned-loads, listed-loads}
use Rattle.prolog.proofs.read_text.Goals as goal

pub returns-then-names-n : goal.returns-then-names-n
returns-then-names-n c =
    let a = c.args in
    let L = listed-are (words-known (words-of c.read_words.ensures c.in_ok-words.was) c.in-Listed.is) in
    no-room-names a.text.now a.cells.now a.names.now c.in_ok-words.words.facts L.counts c.in-Listed.n
    (ap turned c.no_room.ensures) L.count L.room' c.if-names-n.true

pub overflow_add-k : goal.overflow_add-k
overflow_add-k c = omega (arith, (counts-read (listed-are (words-known (words-of c.read_words.ensures c.in_ok-words.was) c.in-Listed.is)).counts).2)

pub slice_bounds-made-end : goal.slice_bounds-made-end
slice_bounds-made-end c = cells-within (listed-are (words-known (words-of c.read_words.ensures c.in_ok-words.was) c.in-Listed.is))

pub slice_bounds-give-end : goal.slice_bounds-give-end
slice_bounds-give-end c = sym (length-take-le _ _ (cells-within (listed-are (words-known (words-of c.read_words.ensures c.in_ok-words.was) c.in-Listed.is))))

pub slice_bounds-list-end : goal.slice_bounds-list-end
slice_bounds-list-end c = names-within (listed-are (words-known (words-of c.read_words.ensures c.in_ok-words.was) c.in-Listed.is))

pub slice_bounds-give-end-in-Listed : goal.slice_bounds-give-end-in-Listed
slice_bounds-give-end-in-Listed c = sym (length-take-le _ _ (names-within (listed-are (words-known (words-of c.read_words.ensures c.in_ok-words.was) c.in-Listed.is))))

pub give-requires : goal.give-requires
give-requires c =
    let L = listed-are (words-known (words-of c.read_words.ensures c.in_ok-words.was) c.in-Listed.is) in
    (cells_fit L, names-fit L c.if-names-n.false)

pub overflow_add-words : goal.overflow_add-words
overflow_add-words c = omega (arith, (counts-read (passed-are (words-known (words-of c.read_words.ensures c.in_ok-words.was) c.in-Passed.is)).0).2)

pub returns-else-names-n : goal.returns-else-names-n
returns-else-names-n c =
    let a = c.args in
    listed-loads a.cells.now a.names.now c.give.new.cells c.give.new.names c.give.result (listed-are (words-known (words-of c.read_words.ensures c.in_ok-words.was) c.in-Listed.is)) c.if-names-n.false
    c.give.ensures

pub returns-in-Counted : goal.returns-in-Counted
returns-in-Counted c =
    let a = c.args in
    let W = counted-are (words-known (words-of c.read_words.ensures c.in_ok-words.was) c.in-Counted.is) in
    over-loads a.text.now a.cells.now a.names.now c.in_ok-words.words.facts W.0 c.in-Counted.n c.over.ensures W.1.2
    W.1.1 W.1.0

pub returns-in-Passed : goal.returns-in-Passed
returns-in-Passed c =
    let a = c.args in
    let W = passed-are (words-known (words-of c.read_words.ensures c.in_ok-words.was) c.in-Passed.is) in
    no-room-cells a.text.now a.cells.now a.names.now c.in_ok-words.words.facts W.0 (ap turned c.no_room-in-Passed.ensures) W.1

pub returns-in_err-words : goal.returns-in_err-words
returns-in_err-words c =
    let a = c.args in
    let p = err_from_is_err_and c.from_residual.result c.from_residual.ensures.1 in
    rw (p.1, p.2) (turned-loads a.text.now a.cells.now a.names.now _ (turned-are _ (words-of c.read_words.ensures c.in_err-words.was)))
