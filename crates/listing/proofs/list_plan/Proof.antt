use Rattle.listing.proofs.EntryLaws.{begins}
use borrow.Author.Rules.{rules}
use Rattle.listing.proofs.list_plan.Statement.{statement}
use Rattle.listing.proofs.list_plan.Tie as tie

check-noted-requires : tie.Need-check_noted-noted-requires
check-noted-requires c κs = search rules

put-header-requires : tie.Need-put_header-to-requires
put-header-requires c κs = search rules

state-requires : tie.Need-state-s-requires
state-requires c κs =
    let h = c.before.before.before.before in
    let m = h.before.before in
    (begins m.requires m.check_noted-noted.result m.check_noted-noted.ensures h.put_header-to.ensures).ready

same_length : tie.Need-shape_of-out
same_length c = search rules

returns : tie.Need-returns
returns c =
    λ w.
    let s = c.before.before in
    let h = s.before.before.before.before.before in
    let m = h.before.before in
    let b = begins w m.check_noted-noted.result m.check_noted-noted.ensures h.put_header-to.ensures in
    b.back (s.state-s.ensures b.ready)

pub list_plan_spec : {M : Type 1} → statement M
list_plan_spec =
    tie.close
    (tie.spec check-noted-requires put-header-requires state-requires same_length returns)
