use Rattle.octets.proofs.RoomLaws.{put-is}
use Rattle.octets.proofs.put_word.Goals as goal

pub returns : goal.returns
returns c = put-is c.put_all.ensures
