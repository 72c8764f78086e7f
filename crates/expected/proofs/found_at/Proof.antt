use mathlib.Core.Path.{sym}
use native.Mathlib.Omega.{arith}
use Rattle.expected.proofs.FoundLaws.{found-end, found-byte}
use borrow.Author.Rules.{rules}
use Rattle.expected.proofs.found_at.Statement.{statement}
use Rattle.expected.proofs.found_at.Tie as tie

returns : tie.Need-returns-then-text-at
returns c = let a = c.args in sym (found-end a.text.now a.at a.stand a.what c.if-text-at.true)

in-number-requires : tie.Need-in_number-requires
in-number-requires c κs = search rules

is-spaced-requires : tie.Need-is_spaced-requires
is-spaced-requires c κs = search rules

shared-slice-read-found-of : tie.Need-bounds-text-at
shared-slice-read-found-of c = search rules

found-of-requires : tie.Need-found_of-requires
found-of-requires c κs = search rules

returns-2 : tie.Need-returns
returns-2 c = let a = c.args in cc (found-byte a.text.now a.at a.stand a.what (omega arith))

pub found_at_spec : {M : Type 1} → statement M
found_at_spec =
    tie.close
    (tie.spec
    returns
    in-number-requires
    is-spaced-requires
    shared-slice-read-found-of
    found-of-requires
    returns-2)
