use Rattle.message.specs.Words.{ascii}
use Rattle.octets.proofs.PutLaws.{put-put}
use Rattle.mendwords.specs.Mended.{other_text}
use Rattle.mendwords.proofs.put_other.Goals as goal

pub returns : goal.returns
unfolding ascii other_text
returns c = put-put c.put_word-a.ensures c.put_decimal.ensures
