use mathlib.Core.Path.{◌∙◌, ap}
use Rattle.refusal.specs.Coded.{coded}
use Rattle.refusal.proofs.CodedLaws.{small_by}
use Rattle.dudowiej.proofs.CodeLaws.{coded_by, read-by}
use Rattle.dudowiej.proofs.Small.{table-small}
use Rattle.dudowiej.proofs.dudowiej_read_table.Goals as goal

pub returns : goal.returns
returns c =
    let r = c.read_table in
    coded_by (read-by r.result) (small_by r.ensures.answer (table-small c.args.cells.now)) c.as_number.ensures ∙ ap coded r.ensures.answer
