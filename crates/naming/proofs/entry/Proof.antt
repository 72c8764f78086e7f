use borrow.Author.Rules.{rules}
use Rattle.naming.proofs.ListLaws.{entry-said}
use Rattle.naming.proofs.entry.Statement.{statement}
use Rattle.naming.proofs.entry.Tie as tie

-- src/lib.rt:12:17
cast-start : tie.Need-overflow_cast-start
cast-start c = search rules

-- src/lib.rt:13:17
cast-bytes : tie.Need-overflow_cast-bytes
cast-bytes c = search rules

-- src/lib.rt:14:5
is-name-requires : tie.Need-is_name-requires
is-name-requires c κs = search rules

-- src/lib.rt:9:1
returns : tie.Need-returns
returns c = let a = c.args in entry-said a.text.now a.name c.is_name.result c.is_name.ensures

pub entry_spec : {M : Type 1} → statement M
entry_spec = tie.close (tie.spec cast-start cast-bytes is-name-requires returns)
