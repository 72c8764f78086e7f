use Rattle.paircosts.proofs.PartLaws.{none_open}
use Rattle.paircosts.proofs.BestLaws.{part-some, part_none}
use Rattle.paircosts.proofs.arrays.Sheet.part_of.Goals as goal

pub returns-then-named-eq0 : goal.returns-then-named-eq0
returns-then-named-eq0 c = λ g. (rw (none_open g c.if-named-eq0.true), c.requires.1)

pub returns-then-part : goal.returns-then-part
returns-then-part c = λ g.
    (let p = c.part_named-part in (part-some _ p.result (p.ensures g).0 c.if-part.true, (p.ensures g).1))

pub returns : goal.returns
returns c = λ g. (let p = c.part_named-part in (part_none _ p.result (p.ensures g).0 c.if-part.false, c.requires.1))
