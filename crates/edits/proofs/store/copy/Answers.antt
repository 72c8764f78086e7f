use Rattle.octets.proofs.PutLaws.{put_whole}
use Rattle.edits.proofs.store.copy.Goals as goal

pub returns : goal.returns
returns c = (put_whole c.put_cells.ensures c.requires).1
