use native.Mathlib.Omega.{arith}
use Rattle.texttable.proofs.TreeLaws.{start-last, start-all}
use Rattle.texttable.proofs.tree.mix_start.Goals as goal

pub returns-then-turn-gt0 : goal.returns-then-turn-gt0
returns-then-turn-gt0 c =
    let e = start-all c.args.turn c.args.bytes (λ z. omega (arith, c.if-turn-gt0.true)) in
    (omega (arith, e), omega arith)

pub returns : goal.returns
returns c =
    let e = start-last c.args.turn c.args.bytes (omega (arith, c.if-turn-gt0.false)) in
    (omega (arith, e, c.saturating_sub.ensures), omega (arith, c.saturating_sub.ensures))
