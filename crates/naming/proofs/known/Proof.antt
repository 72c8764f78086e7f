use mathlib.Core.Path.{sym, ◌∙◌}
use borrow.Author.Rules.{rules}
use Rattle.naming.proofs.ListLaws.{known-said}
use Rattle.naming.proofs.known.Statement.{statement}
use Rattle.naming.proofs.known.Tie as tie

-- src/lib.rt:35:8
kind-requires : tie.Need-kind-requires
kind-requires c κs = search rules

-- src/lib.rt:36:9
returns : tie.Need-returns-then-kind-ne1
returns c = search rules

-- src/lib.rt:38:13
number-requires : tie.Need-number-n-requires
number-requires c κs = search rules

-- src/lib.rt:38:13
cast-n : tie.Need-overflow_cast-n
cast-n c = search rules

-- src/lib.rt:32:1
returns-2 : tie.Need-returns
returns-2 c =
    let a = c.args in
    known-said a.c a.count (sym c.kind.ensures ∙ c.if-kind-ne1.false) c.number-n.result c.number-n.ensures

pub known_spec : {M : Type 1} → statement M
known_spec = tie.close (tie.spec kind-requires returns number-requires cast-n returns-2)
