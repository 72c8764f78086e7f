use Rattle.demands.proofs.Numbers.{prints-symbol}
use Rattle.demands.proofs.request_symbol.Goals as goal

pub returns : goal.returns
returns c = prints-symbol _ _ _ _ _ c.put_symbol.ensures
