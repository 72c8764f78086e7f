use Rattle.octets.proofs.RoomLaws.{put-is}
use Rattle.octets.proofs.put_byte.Goals as goal

pub returns : goal.returns
returns c = put-is c.put_one.ensures
