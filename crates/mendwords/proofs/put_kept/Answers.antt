use Rattle.message.specs.Words.{ascii}
use Rattle.octets.proofs.PutLaws.{put-put}
use Rattle.mendwords.specs.Mended.{kept_line}
use Rattle.mendwords.proofs.put_kept.Goals as goal

pub returns : goal.returns
unfolding ascii kept_line
returns c = put-put c.put_decimal-a.ensures (put-put c.put_word-b.ensures (put-put c.put_number_of-c.ensures (put-put c.put_dropped-d.ensures c.put_byte.ensures)))
