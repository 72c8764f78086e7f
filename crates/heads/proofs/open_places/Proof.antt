use Rattle.heads.proofs.HeadLaws.{a-hole-is, no-hole-is}
use Rattle.heads.proofs.open_places.Statement.{statement}
use Rattle.heads.proofs.open_places.Tie as tie

-- src/lib.rt:82:9
returns : tie.Need-returns-then-c-eq-HOLE
returns c = a-hole-is c.args.c 1 0 c.if-c-eq-HOLE.true

-- src/lib.rt:78:1
returns-2 : tie.Need-returns
returns-2 c = no-hole-is c.args.c 1 0 c.if-c-eq-HOLE.false

pub open_places_spec : {M : Type 1} → statement M
open_places_spec = tie.close (tie.spec returns returns-2)
