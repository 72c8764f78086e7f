use Rattle.octets.proofs.PutLaws.{put_front}
use Rattle.prolog.proofs.put_front.Goals as goal

pub returns : goal.returns
returns c = (put_front c.put_cells.ensures c.requires).1
