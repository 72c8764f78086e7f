use Rattle.dudowiej.proofs.CodeLaws.{coded_by, replies-by}
use Rattle.dudowiej.proofs.Small.{replies-small}
use Rattle.dudowiej.proofs.dudowiej_replies.Goals as goal

pub returns : goal.returns
returns c =
    let r = c.replies in
    let t = c.table_of-cells in
    record { answer = r.result; replied = rw t.ensures at r.ensures; code = coded_by (replies-by r.result) (replies-small r.ensures) c.as_number.ensures }
