use Rattle.paircosts.proofs.BestLaws.{all-range, all-inside, best-some, best-open, best_none}
use Rattle.paircosts.proofs.arrays.Sheet.best_of.Goals as goal

pub cheapest_named-inside-requires : goal.cheapest_named-inside-requires
cheapest_named-inside-requires c = all-inside c.requires c.if-part.true

pub returns-then-part : goal.returns-then-part
returns-then-part c = λ g.
    best-some g c.cheapest_named-inside.result (c.cheapest_named-inside.ensures (all-inside g c.if-part.true)) (g.inside c.if-part.true).0

pub cheapest-found-requires : goal.cheapest-found-requires
cheapest-found-requires c = all-range c.requires c.if-part.false

pub returns-then-found-eq0 : goal.returns-then-found-eq0
returns-then-found-eq0 c = λ g.
    best_none g c.cheapest-found.result (c.cheapest-found.ensures (all-range g c.if-part.false)) c.if-found-eq0.true

pub returns : goal.returns
returns c = λ g. best-open g c.cheapest-found.result (c.cheapest-found.ensures (all-range g c.if-part.false)) c.if-found-eq0.false
