use borrow.Author.Rules.{rules}
use Rattle.measuring.proofs.weight_of.Statement.{statement}
use Rattle.measuring.proofs.weight_of.Tie as tie

enum_told : tie.Need-enum_told-1
enum_told c = search rules

enum-told-2 : tie.Need-enum_told-in-Work
enum-told-2 c = search rules

work-of-requires : tie.Need-work_of-requires
work-of-requires c κs = search rules

returns : tie.Need-returns-in-Branches
returns c = search rules

returns-2 : tie.Need-returns-in-Work
returns-2 c = rw c.in-Work.is c.work_of.ensures

pub weight_of_spec : {M : Type 1} → statement M
weight_of_spec = tie.close (tie.spec enum_told enum-told-2 work-of-requires returns returns-2)
