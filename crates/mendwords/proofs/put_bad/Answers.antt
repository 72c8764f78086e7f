use Rattle.message.specs.Words.{ascii}
use Rattle.octets.proofs.PutLaws.{put-put}
use Rattle.mendwords.specs.Mended.{bad_line}
use Rattle.mendwords.proofs.put_bad.Goals as goal

pub returns : goal.returns
unfolding ascii bad_line
returns c = put-put c.put_word-a.ensures (put-put c.put_numbers-b.ensures c.put_byte.ensures)
