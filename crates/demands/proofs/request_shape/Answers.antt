use Rattle.demands.proofs.Numbers.{reads-cell}
use Rattle.demands.proofs.request_shape.Goals as goal

pub returns : goal.returns
returns c = reads-cell _ _ c.shape_of.ensures
