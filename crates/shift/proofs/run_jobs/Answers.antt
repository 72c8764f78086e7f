use Rattle.std.proofs.Common.{◌∙◌, sym}
use Rattle.shift.proofs.JobsLaws.{jobs-asked, jobs-left}
use Rattle.shift.proofs.run_jobs.Goals as goal

pub returns-then-is_ok : goal.returns-then-is_ok
returns-then-is_ok c =
    jobs-asked c.args.cells.now c.check_noted-noted.ensures (sym c.is_ok.ensures.value ∙ c.if-is_ok.true) c.ask_all.ensures

pub returns-else-is_ok : goal.returns-else-is_ok
returns-else-is_ok c =
    jobs-left c.args.cells.now c.check_noted-noted.ensures (sym c.is_ok.ensures.value ∙ c.if-is_ok.false)
