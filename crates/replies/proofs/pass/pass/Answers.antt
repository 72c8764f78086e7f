-- `pass::pass` meets its contract: in short lists, and from where these are too short on in long ones.
use native.Mathlib.Omega.{arith}
use Rattle.instance.proofs.PassLaws.{pass-end}
use Rattle.replies.specs.code.Sums.{passed, passed_over}
use Rattle.replies.proofs.PassedLaws.{rest-large, rest-passed}
use Rattle.replies.proofs.pass.pass.Goals as goal

pub returns-then-i-hits : goal.returns-then-i-hits
returns-then-i-hits c =
    let u = c.pass_short-short.ensures in λ all a. passed (pass-end (u.pass all a) (omega (arith, c.if-i-hits.true)))

pub returns-then-long-hits : goal.returns-then-long-hits
returns-then-long-hits c =
    let u = c.pass_short-short.ensures in
    λ all a. passed_over (rest-large a (u.pass all a) c.pass_long-long.result c.pass_long-long.ensures.1 c.if-long-hits.true)

pub returns : goal.returns
returns c =
    let k = c.pass_short-short in
    let u = k.ensures in
    λ all a.
    passed (rest-passed a (u.pass all a) (omega (arith, u.inside, k.auto)) c.pass_long-long.ensures.0 (omega (arith, c.if-long-hits.false)))
