use native.Mathlib.Omega.{arith}
use Rattle.octets.proofs.PutLaws.{put-put}
use Rattle.octets.proofs.DecimalLaws.{decimal-small, decimal-more}
use Rattle.octets.proofs.+put_decimal.Goals as goal

pub returns-then-n-lt10 : goal.returns-then-n-lt10
returns-then-n-lt10 t c = rw (decimal-small c.args.n (omega arith)) c.put_byte.ensures

pub returns : goal.returns
returns t c = rw (decimal-more c.args.n (omega arith)) (put-put c.put_decimal-last.ensures c.put_byte-2.ensures)
