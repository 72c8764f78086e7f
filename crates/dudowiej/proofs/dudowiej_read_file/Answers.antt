use Rattle.dudowiej.proofs.CodeLaws.{cut_by, contents-by}
use Rattle.filing.specs.Answers.{contents_told}
use Rattle.dudowiej.proofs.Small.{loaded-small}
use Rattle.dudowiej.proofs.dudowiej_read_file.Goals as goal

pub returns : goal.returns
returns c =
    let r = c.read_file in
    record { told = contents_told r.result; loaded = r.ensures; code = cut_by (contents-by r.result) (loaded-small r.ensures) c.as_number.ensures }
