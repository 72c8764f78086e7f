use Rattle.prolog.specs.Entry.{text_told}
use Rattle.dudowiej.proofs.CodeLaws.{coded_by, text-by}
use Rattle.dudowiej.proofs.Small.{text-small}
use Rattle.dudowiej.proofs.dudowiej_read_text.Goals as goal

pub returns : goal.returns
returns c =
    let r = c.read_text in
    record { answer = text_told r.result; loaded = r.ensures; code = coded_by (text-by r.result) (text-small r.ensures) c.as_number.ensures }
