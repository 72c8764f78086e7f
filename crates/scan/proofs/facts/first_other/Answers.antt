use mathlib.Core.Path.{sym, ◌∙◌}
use Rattle.scan.specs.code.Facts.{later_other}
use Rattle.scan.proofs.facts.first_other.Goals as goal

pub returns-in-Some : goal.returns-in-Some
unfolding later_other
returns-in-Some c = rw c.in-Some.is

pub returns-then-like_first : goal.returns-then-like_first
unfolding later_other
returns-then-like_first c = rw (c.in-None.is, sym c.like_first.ensures ∙ c.if-like_first.true)

pub returns-else-like_first : goal.returns-else-like_first
unfolding later_other
returns-else-like_first c = rw (c.in-None.is, sym c.like_first.ensures ∙ c.if-like_first.false)
