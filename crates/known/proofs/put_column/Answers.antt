use Rattle.message.specs.Words.{ascii}
use Rattle.octets.proofs.PutLaws.{put-put}
use Rattle.known.specs.Known.{column_line}
use Rattle.known.proofs.put_column.Goals as goal

pub returns : goal.returns
unfolding ascii column_line
returns c =
    put-put c.put_word-a.ensures (put-put c.put_word-b.ensures (put-put c.put_word-c.ensures (put-put c.put_word-d.ensures
    (put-put c.put_word-e.ensures c.put_number_of.ensures))))
