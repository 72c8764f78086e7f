use native.Mathlib.Omega.{arith}
use Rattle.std.proofs.lemmas.Result.{err_from_is_err_and}
use Rattle.scan.proofs.SaysLaws.{counts-read}
use Rattle.prolog.proofs.EntryLaws.{words-of, words-known, listed-are, facts-made, facts-many, facts-passed, facts-turned}
use Rattle.prolog.proofs.make_facts.Goals as goal

pub overflow_add-cells : goal.overflow_add-cells
overflow_add-cells c = omega (arith, (counts-read (listed-are (words-known (words-of c.read_words.ensures c.in_ok-words.was) c.in-Listed.is)).counts).2)

pub returns-in-Listed : goal.returns-in-Listed
returns-in-Listed c = facts-made (listed-are (words-known (words-of c.read_words.ensures c.in_ok-words.was) c.in-Listed.is))

pub returns-in-Counted : goal.returns-in-Counted
returns-in-Counted c = facts-many (words-known (words-of c.read_words.ensures c.in_ok-words.was) c.in-Counted.is)

pub returns-in-Passed : goal.returns-in-Passed
returns-in-Passed c = facts-passed (words-known (words-of c.read_words.ensures c.in_ok-words.was) c.in-Passed.is)

pub returns-in_err-words : goal.returns-in_err-words
returns-in_err-words c =
    let p = err_from_is_err_and c.from_residual.result c.from_residual.ensures.1 in
    rw (p.1, p.2) (facts-turned (words-of c.read_words.ensures c.in_err-words.was))
