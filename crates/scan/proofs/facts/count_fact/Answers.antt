use Rattle.scan.proofs.CountLaws.{one-fact, one_more}
use Rattle.scan.proofs.facts.count_fact.Goals as goal

pub returns-then-tally-eq0 : goal.returns-then-tally-eq0
returns-then-tally-eq0 c = one-fact c.args.text.now c.args.tally c.args.seen c.if-tally-eq0.true

pub returns : goal.returns
returns c = one_more c.args.text.now c.args.tally c.args.seen c.if-tally-eq0.false c.first_other-other.ensures
