use Rattle.filing.specs.Answers.{written_told}
use Rattle.dudowiej.proofs.CodeLaws.{coded_by, written-by}
use Rattle.dudowiej.proofs.Small.{written_small}
use Rattle.dudowiej.proofs.dudowiej_write_file.Goals as goal

pub returns : goal.returns
returns c =
    let r = c.write_file in
    let t = c.table_of-cells in
    record {
      told = written_told r.result;
      wrote = rw t.ensures at r.ensures;
      code = coded_by (written-by r.result) (written_small r.ensures) c.as_number.ensures;
    }
