use native.Mathlib.Omega.{arith}
use Rattle.lex.proofs.TurnLaws.{mark-ends, comma-turn, close-turn, no-mark}
use Rattle.lex.proofs.turn.mark_at.Goals as goal

pub returns-then-text-at : goal.returns-then-text-at
returns-then-text-at c = mark-ends c.args.text.now c.args.at c.requires c.if-text-at.true

pub returns-then-byte-eq44 : goal.returns-then-byte-eq44
returns-then-byte-eq44 c = comma-turn c.args.text.now c.args.at c.requires (omega arith) c.if-byte-eq44.true

pub returns-then-byte-eq41 : goal.returns-then-byte-eq41
returns-then-byte-eq41 c = close-turn c.args.text.now c.args.at c.requires (omega arith) c.if-byte-eq41.true

pub returns : goal.returns
returns c = no-mark c.args.text.now c.args.at c.requires (omega arith) c.if-byte-eq44.false c.if-byte-eq41.false
