use Rattle.message.specs.Words.{ascii}
use Rattle.message.specs.Message.{facts_reason}
use Rattle.message.specs.code.Numbers.{facts_number}
use Rattle.message.proofs.ReasonLaws.{facts-other}
use borrow.Author.Rules.{rules}
use Rattle.message.proofs.reason.put_facts_reason.Statement.{statement}
use Rattle.message.proofs.reason.put_facts_reason.Tie as tie

put-word-requires : tie.Need-put_word-requires
put-word-requires c κs = search rules

put-word-requires-2 : tie.Need-put_word-requires-in-2
put-word-requires-2 c κs = search rules

put-word-requires-3 : tie.Need-put_word-requires-in-3
put-word-requires-3 c κs = search rules

put-word-requires-4 : tie.Need-put_word-requires-in-4
put-word-requires-4 c κs = search rules

put-word-requires-5 : tie.Need-put_word-requires-in-17
put-word-requires-5 c κs = search rules

put-text-requires : tie.Need-put_text-requires
put-text-requires c κs = search rules

put-word-requires-6 : tie.Need-put_word-requires-in-19
put-word-requires-6 c κs = search rules

put-word-requires-7 : tie.Need-put_word-requires-in-24
put-word-requires-7 c κs = search rules

put-number-requires : tie.Need-put_number-requires
put-number-requires c κs = search rules

same_length : tie.Need-shape_of-out-in-1
same_length c = search rules

returns : tie.Need-returns-in-1
unfolding ascii facts_reason facts_number
returns c = rw c.in-1.is c.put_word.ensures

same-length-2 : tie.Need-shape_of-out-in-2
same-length-2 c = search rules

returns-2 : tie.Need-returns-in-2
unfolding ascii facts_reason facts_number
returns-2 c = rw c.in-2.is c.put_word-in-2.ensures

same-length-3 : tie.Need-shape_of-out-in-3
same-length-3 c = search rules

returns-3 : tie.Need-returns-in-3
unfolding ascii facts_reason facts_number
returns-3 c = rw c.in-3.is c.put_word-in-3.ensures

same-length-4 : tie.Need-shape_of-out-in-4
same-length-4 c = search rules

returns-4 : tie.Need-returns-in-4
unfolding ascii facts_reason facts_number
returns-4 c = rw c.in-4.is c.put_word-in-4.ensures

same-length-5 : tie.Need-shape_of-out-in-17
same-length-5 c = search rules

returns-5 : tie.Need-returns-in-17
unfolding ascii facts_reason facts_number
returns-5 c = rw c.in-17.is c.put_word-in-17.ensures

same-length-6 : tie.Need-shape_of-out-in-18
same-length-6 c = search rules

returns-6 : tie.Need-returns-in-18
unfolding ascii facts_reason facts_number
returns-6 c = rw c.in-18.is c.put_text.ensures

same-length-7 : tie.Need-shape_of-out-in-19
same-length-7 c = search rules

returns-7 : tie.Need-returns-in-19
unfolding ascii facts_reason facts_number
returns-7 c = rw c.in-19.is c.put_word-in-19.ensures

same-length-8 : tie.Need-shape_of-out-in-24
same-length-8 c = search rules

returns-8 : tie.Need-returns-in-24
unfolding ascii facts_reason facts_number
returns-8 c = rw c.in-24.is c.put_word-in-24.ensures

same-length-9 : tie.Need-shape_of-out-in_default
same-length-9 c = search rules

returns-9 : tie.Need-returns-in_default
returns-9 c =
    let m = c.in_default.in_default-own in
    let four = m.rest.0.0.0.0 in
    rw (facts-other _ _ four.0.0.0.1 four.0.0.1 four.0.1 four.1
    m.rest.0.0.0.1 m.rest.0.0.1 m.rest.0.1 m.rest.1) c.put_number.ensures

pub put_facts_reason_spec : {M : Type 1} → statement M
put_facts_reason_spec =
    tie.close
    (tie.spec
    put-word-requires
    put-word-requires-2
    put-word-requires-3
    put-word-requires-4
    put-word-requires-5
    put-text-requires
    put-word-requires-6
    put-word-requires-7
    put-number-requires
    same_length
    returns
    same-length-2
    returns-2
    same-length-3
    returns-3
    same-length-4
    returns-4
    same-length-5
    returns-5
    same-length-6
    returns-6
    same-length-7
    returns-7
    same-length-8
    returns-8
    same-length-9
    returns-9)
