use Rattle.scan.proofs.SaysLaws.{scan-is, scan-facts}
use Rattle.goaltext.proofs.StepLaws.{predicate-facts, predicate-none}
use Rattle.goaltext.proofs.predicate_of.Goals as goal

pub returns-in-Ok : goal.returns-in-Ok
returns-in-Ok c =
    let t = c.args.text.now in
    predicate-facts t _ _ c.first_name-s.ensures (scan-facts t _ (scan-is t c.scan_text.ensures c.in-Ok.is))

pub returns-in-Err : goal.returns-in-Err
returns-in-Err c =
    let t = c.args.text.now in
    predicate-none t _ (scan-is t c.scan_text.ensures c.in-Err.is)
