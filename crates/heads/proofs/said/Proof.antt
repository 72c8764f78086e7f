use Rattle.heads.proofs.HeadLaws.{a-hole-is, no-hole-is}
use Rattle.heads.proofs.said.Statement.{statement}
use Rattle.heads.proofs.said.Tie as tie

-- src/lib.rt:92:9
returns : tie.Need-returns-then-c-eq-HOLE
returns c = a-hole-is c.args.c c.args.v c.args.c c.if-c-eq-HOLE.true

-- src/lib.rt:88:1
returns-2 : tie.Need-returns
returns-2 c = no-hole-is c.args.c c.args.v c.args.c c.if-c-eq-HOLE.false

pub said_spec : {M : Type 1} → statement M
said_spec = tie.close (tie.spec returns returns-2)
