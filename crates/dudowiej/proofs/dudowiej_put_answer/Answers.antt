use Rattle.dudowiej.proofs.CodeLaws.{coded_by, answer-text-by}
use Rattle.dudowiej.proofs.dudowiej_put_answer.Goals as goal

pub returns : goal.returns
returns c =
    let p = c.put_answer in
    record { answer = p.result; into = p.ensures.answer_into; small = p.ensures.small; code = coded_by (answer-text-by p.result) p.ensures.small c.as_number.ensures }
