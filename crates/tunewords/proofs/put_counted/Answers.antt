use Rattle.message.specs.Words.{ascii}
use Rattle.octets.proofs.PutLaws.{put-put}
use Rattle.tunewords.specs.Tuned.{counted_line}
use borrow.Author.Rules.{rules}
use Rattle.tunewords.proofs.put_counted.Goals as goal

pub returns : goal.returns
unfolding ascii counted_line
returns c =
    put-put c.put_number_of-a.ensures (put-put c.put_decimal-b.ensures (put-put c.put_word-c.ensures
    (put-put c.put_number_of-d.ensures (put-put c.put_decimal-e.ensures c.put_word.ensures))))
