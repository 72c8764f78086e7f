use Rattle.octets.proofs.PutLaws.{put-put}
use Rattle.tunewords.specs.Tuned.{look_line}
use borrow.Author.Rules.{rules}
use Rattle.tunewords.proofs.put_look.Goals as goal

pub returns : goal.returns
unfolding look_line
returns c =
    put-put c.put_call-a.ensures (put-put c.put_word-b.ensures c.put_byte.ensures)
