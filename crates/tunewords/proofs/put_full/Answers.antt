use Rattle.message.specs.Words.{ascii}
use Rattle.octets.proofs.PutLaws.{put-put}
use Rattle.tunewords.specs.Tuned.{full_line}
use borrow.Author.Rules.{rules}
use Rattle.tunewords.proofs.put_full.Goals as goal

pub returns : goal.returns
unfolding ascii full_line
returns c =
    put-put c.put_word-a.ensures (put-put c.put_byte-b.ensures (put-put c.put_decimal-c.ensures c.put_reason.ensures))
