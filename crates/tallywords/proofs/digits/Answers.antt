use native.Mathlib.Omega.{arith}
use Rattle.octets.proofs.PutLaws.{put-found}
use Rattle.octets.proofs.DecimalLaws.{digits-few}
use borrow.Author.Rules.{rules}
use Rattle.tallywords.proofs.digits.Goals as goal

pub returns : goal.returns
returns c =
    let n = c.args.n in
    (put-found c.put_decimal.ensures (digits-few 19 n (omega arith))).0
