use native.Mathlib.Omega.{arith}
use Rattle.scan.proofs.SaysLaws.{scan-is, scan-facts}
use Rattle.goaltext.proofs.StepLaws.{ends-facts, ends-stop, ends-other}
use Rattle.goaltext.proofs.text_stop.Goals as goal

pub returns-then-number_of-eq18 : goal.returns-then-number_of-eq18
returns-then-number_of-eq18 c = λ few.
    let t = c.args.text.now in
    ends-stop t c.in-Err.f few (scan-is t c.scan_text.ensures c.in-Err.is)
    (omega (arith, c.number_of.ensures.0))

pub returns-in-Ok : goal.returns-in-Ok
returns-in-Ok c = λ few.
    let t = c.args.text.now in
    ends-facts t _ (scan-facts t _ (scan-is t c.scan_text.ensures c.in-Ok.is))

pub returns-else-number_of-eq18 : goal.returns-else-number_of-eq18
returns-else-number_of-eq18 c = λ few.
    let t = c.args.text.now in
    ends-other t c.in-Err.f few (scan-is t c.scan_text.ensures c.in-Err.is)
    (λ e. omega (arith, c.number_of.ensures.0, e))
