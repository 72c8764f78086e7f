use mathlib.Core.Path.{ap₂, ◌∙◌}
use native.Mathlib.Omega.{arith}
use borrow.Author.Tests.{eq-eqb, ne_eqb}
use Rattle.cell.specs.Same.{same}
use Rattle.lex.proofs.NameLaws.{part-is}
use Rattle.scan.proofs.facts.like_first.Goals as goal

pub returns-then-seen-tally : goal.returns-then-seen-tally
returns-then-seen-tally c =
    let a = c.args in
    let t = a.text.now in
    let p = part-is t a.seen.start a.seen.end (omega arith) (omega arith) in
    let q = part-is t a.tally.start a.tally.end (omega arith) (omega arith) in
    rw (eq-eqb _ _ c.if-seen-tally.true) (c.same_bytes.ensures ∙ ap₂ same p q)

pub returns-else-seen-tally : goal.returns-else-seen-tally
returns-else-seen-tally c = rw (ne_eqb _ _ c.if-seen-tally.false)
