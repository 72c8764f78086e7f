use Rattle.expected.proofs.FoundLaws.{wanted-is}
use borrow.Author.Rules.{rules}
use Rattle.expected.proofs.expected.Statement.{statement}
use Rattle.expected.proofs.expected.Tie as tie

look-requires : tie.Need-look-level-requires
look-requires c κs = search rules

look-requires-2 : tie.Need-look-s-requires
look-requires-2 c κs = search rules

mark-of-requires : tie.Need-mark_of-requires
mark-of-requires c κs = search rules

what-of-requires : tie.Need-what_of-what-requires
what-of-requires c κs = search rules

found-at-requires : tie.Need-found_at-found-requires
found-at-requires c κs = search rules

returns : tie.Need-returns
returns c =
    let s = c.before.before.before in
    wanted-is _ _ s.look-level.ensures s.look-s.ensures c.mark_of.ensures c.what_of-what.ensures
    c.found_at-found.ensures

pub expected_spec : {M : Type 1} → statement M
expected_spec =
    tie.close
    (tie.spec
    look-requires
    look-requires-2
    mark-of-requires
    what-of-requires
    found-at-requires
    returns)
