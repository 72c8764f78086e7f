use Rattle.octets.proofs.RoomLaws.{put-is}
use Rattle.octets.proofs.cells.put_cell.Goals as goal

pub returns : goal.returns
returns c = put-is c.put_one.ensures
