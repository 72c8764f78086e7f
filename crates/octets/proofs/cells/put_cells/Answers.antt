use Rattle.octets.proofs.RoomLaws.{put-is}
use Rattle.octets.proofs.cells.put_cells.Goals as goal

pub returns : goal.returns
returns c = put-is c.put_all.ensures
