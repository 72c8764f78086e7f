use Rattle.std.proofs.Common.{arith}
use Rattle.blocks.proofs.LookLaws.{other-number, other-first, by-second}
use Rattle.blocks.proofs.is_sound.Goals as goal

pub returns-then-block-number : goal.returns-then-block-number
returns-then-block-number c = other-number c.args.number c.args.block.now c.requires (λ e. omega arith)

pub returns-then-block-s : goal.returns-then-block-s
returns-then-block-s c =
    other-first c.args.number c.args.block.now c.requires c.sums-s.result.one c.sums-s.ensures.0 (omega arith) (λ e. omega arith)

pub returns : goal.returns
returns c =
    let w = c.sums-s in
    by-second c.args.number c.args.block.now c.requires w.result.one w.result.two w.ensures.0 w.ensures.1 (omega arith) (omega arith)
