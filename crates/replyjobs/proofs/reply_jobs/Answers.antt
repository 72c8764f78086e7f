use Rattle.std.proofs.Common.{◌∙◌, sym}
use Rattle.replyjobs.proofs.JobsLaws.{jobs-replied, jobs-left}
use Rattle.replyjobs.proofs.reply_jobs.Goals as goal

pub returns-then-is_ok : goal.returns-then-is_ok
returns-then-is_ok c =
    let h = c.check_noted-noted.ensures in
    jobs-replied c.args.cells.now h (sym c.is_ok.ensures.value ∙ c.if-is_ok.true) (c.reply_each.ensures c.args.plan.now _ h)

pub returns-else-is_ok : goal.returns-else-is_ok
returns-else-is_ok c =
    jobs-left c.args.cells.now c.check_noted-noted.ensures (sym c.is_ok.ensures.value ∙ c.if-is_ok.false)
