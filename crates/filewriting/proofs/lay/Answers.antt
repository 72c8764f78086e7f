use Rattle.octets.proofs.PutLaws.{put-put}
use Rattle.filewriting.proofs.lay.Goals as goal

pub returns : goal.returns
returns c = put-put (put-put c.put_cells-a.ensures c.put_cells-b.ensures) c.put_cells.ensures
