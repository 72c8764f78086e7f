use borrow.Author.Tests.{eq-eqb, ne_eqb}
use Rattle.message.specs.Words.{ascii}
use Rattle.octets.proofs.PutLaws.{put-put}
use Rattle.tunewords.specs.Tuned.{call_text}
use borrow.Author.Rules.{rules}
use Rattle.tunewords.proofs.put_call.Goals as goal

pub returns-then-columns-eq0 : goal.returns-then-columns-eq0
unfolding ascii call_text
returns-then-columns-eq0 c = rw (eq-eqb _ _ c.if-columns-eq0.true) c.put_word.ensures

pub returns : goal.returns
unfolding ascii call_text
returns c =
    rw (ne_eqb _ _ c.if-columns-eq0.false)
    (put-put c.put_words-a.ensures (put-put c.put_list-b.ensures (put-put c.put_word-c.ensures (put-put c.put_list-d.ensures
    c.put_byte.ensures))))
