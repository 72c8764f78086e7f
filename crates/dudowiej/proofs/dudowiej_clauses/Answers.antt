use Rattle.dudowiej.proofs.CodeLaws.{coded_by, hand-by}
use Rattle.dudowiej.proofs.Small.{clauses-small}
use Rattle.dudowiej.proofs.dudowiej_clauses.Goals as goal

pub returns : goal.returns
returns c =
    let h = c.hand_back.ensures in
    -- the names are numbers of 32 bits
    let few = clauses-small (λ k. (c.type_inv.names k).fits) h in
    record {
      answer = c.hand_back.result;
      handed = rw c.table_of-cells.ensures at h;
      small = few;
      code = coded_by (hand-by c.hand_back.result) few c.as_number.ensures;
    }
