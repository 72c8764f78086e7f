use Rattle.std.proofs.Common.{◌≤◌, length, add-one, arith}
use Rattle.replyjobs.specs.code.Upto.{rest}
use Rattle.replyjobs.proofs.UptoLaws.{next-within, upto-more, upto_all}
use Rattle.replyjobs.proofs.reply_each.Goals as goal

-- the replies of record i end in the room
pub overflow_add-on : goal.overflow_add-on
overflow_add-on c =
    let ok = c.requires in
    let within : c.loop-job.on ≤ length c.loop-job.room = omega arith in
    let next = next-within within (c.reply_one.ensures ok.plan ok.before ok.handed ok.begin within) in
    omega (arith, next)

pub loop-job-init : goal.loop-job-init
loop-job-init c = (omega arith, λ plan before a. rest)

-- record i is asked with what is left of the room, and put in its place
pub loop-job-preserved : goal.loop-job-preserved
loop-job-preserved c =
    let ok = c.requires in
    let v = c.loop-job.invariant in
    let within : c.loop-job.on ≤ length c.loop-job.room = omega arith in
    let p = c.reply_one.ensures in
    let next = next-within within (p ok.plan ok.before ok.handed ok.begin within) in (
      omega (arith, next),
      λ plan before a. rw add-one (upto-more _ c.reply_one.result (v.1 plan before a) (omega arith) (p plan before a ok.begin within)),
    )

pub returns : goal.returns
returns c = λ plan before a. upto_all (c.loop-job.invariant.1 plan before a) (omega arith)
