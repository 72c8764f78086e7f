use Rattle.std.proofs.Common.{ℕ, ◌≡◌, ◌+◌, ◌-◌, arith}
use Rattle.octets.proofs.PutLaws.{put-part, put-ends}
use Rattle.branchwords.proofs.TimesLaws.{times_none, times_more}
use Rattle.branchwords.proofs.put_times.Goals as goal

pub loop-time-preserved : goal.loop-time-preserved
loop-time-preserved c =
    let l = c.loop-time in
    let left = c.args.times - l._time in
    let e : c.args.times - (l._time + 1) ≡ left - 1 = omega arith in
    rw e (put-part (rw (times_more c.args.word.now left (omega arith)) at l.invariant) c.put_word-on.ensures)

pub returns : goal.returns
returns c =
    let l = c.loop-time in
    put-ends (rw (times_none c.args.word.now (c.args.times - l._time) (omega arith)) at l.invariant)
