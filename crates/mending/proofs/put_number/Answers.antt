use native.Mathlib.Omega.{arith}
use Rattle.octets.proofs.PutLaws.{put_one, put-none}
use Rattle.mending.proofs.put_number.Goals as goal

pub returns-then-out-to : goal.returns-then-out-to
returns-then-out-to c = put-none _ _ _ (omega arith)

pub returns : goal.returns
returns c = put_one _ _ _ (omega arith)
