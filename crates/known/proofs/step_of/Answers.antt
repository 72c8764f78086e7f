use borrow.Author.Tests.{eq-eqb, ne_eqb, lt-ltb, le-ltb, le-leb, lt-leb}
use Rattle.known.specs.Known.{step_of}
use borrow.Author.Rules.{rules}
use Rattle.known.proofs.step_of.Goals as goal

pub returns-then-number-eq0 : goal.returns-then-number-eq0
unfolding step_of
returns-then-number-eq0 c = simp (eq-eqb _ _ c.if-byte-eq44.true, eq-eqb _ _ c.if-number-eq0.true)

pub returns-then-byte-eq44 : goal.returns-then-byte-eq44
unfolding step_of
returns-then-byte-eq44 c = simp (eq-eqb _ _ c.if-byte-eq44.true, ne_eqb _ _ c.if-number-eq0.false)

pub returns-then-byte-lt48 : goal.returns-then-byte-lt48
unfolding step_of
returns-then-byte-lt48 c = simp (ne_eqb _ _ c.if-byte-eq44.false, lt-ltb _ _ c.if-byte-lt48.true)

pub returns-then-byte-gt57 : goal.returns-then-byte-gt57
unfolding step_of
returns-then-byte-gt57 c = simp (ne_eqb _ _ c.if-byte-eq44.false, le-ltb _ _ c.if-byte-lt48.false, lt-ltb _ _ c.if-byte-gt57.true)

pub returns-then-number-ge100000000 : goal.returns-then-number-ge100000000
unfolding step_of
returns-then-number-ge100000000 c =
    simp (ne_eqb _ _ c.if-byte-eq44.false, le-ltb _ _ c.if-byte-lt48.false, le-ltb _ _ c.if-byte-gt57.false, le-leb _ _ c.if-number-ge100000000.true)

pub returns : goal.returns
unfolding step_of
returns c =
    simp (ne_eqb _ _ c.if-byte-eq44.false, le-ltb _ _ c.if-byte-lt48.false, le-ltb _ _ c.if-byte-gt57.false, lt-leb _ _ c.if-number-ge100000000.false)
