use Rattle.std.proofs.Common.{◌<◌, length, add-one, arith}
use Rattle.shift.specs.code.Upto.{rest}
use Rattle.shift.proofs.UptoLaws.{upto-long, upto-within, upto-more, upto_all}
use Rattle.shift.proofs.jobs.ask_all.Goals as goal

pub loop-job-init : goal.loop-job-init
loop-job-init c = rest

-- a record is asked, and put in its place
pub loop-job-preserved : goal.loop-job-preserved
loop-job-preserved c =
    let u = c.loop-job.invariant in
    let within : c.loop-job.job-index < length c.args.jobs.now = omega (arith, upto-long u) in
    rw add-one (upto-more _ c.ask_one.result u within c.ask_one.ensures)

pub returns : goal.returns
returns c =
    let u = c.loop-job.invariant in
    upto_all u (omega (arith, upto-within u))
