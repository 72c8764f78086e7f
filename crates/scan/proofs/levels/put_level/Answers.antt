use Prim.Native.Nat.{ℕ, ◌+◌, ◌-◌, ◌*◌, ◌/◌, ◌%◌}
use mathlib.Core.Path.{ap₂}
use native.Mathlib.Omega.{arith}
use lib.ListN.{set}
use Rattle.scan.proofs.LevelLaws.{put_small}
use Rattle.scan.proofs.levels.put_level.Goals as goal

pub overflow_mul-others : goal.overflow_mul-others
overflow_mul-others c =
    let w = c.weight-w in
    let k = put_small c.args.level c.from-byte.result c.args.done w.result w.ensures.0 (omega (arith, c.from-byte.ensures)) c.requires.1 in
    omega (arith, k.0, k.1)

pub overflow_sub-others : goal.overflow_sub-others
overflow_sub-others c =
    let w = c.weight-w in
    let k = put_small c.args.level c.from-byte.result c.args.done w.result w.ensures.0 (omega (arith, c.from-byte.ensures)) c.requires.1 in
    k.0

pub overflow_mul-dones : goal.overflow_mul-dones
overflow_mul-dones c =
    let w = c.weight-w in
    let k = put_small c.args.level c.from-byte.result c.args.done w.result w.ensures.0 (omega (arith, c.from-byte.ensures)) c.requires.1 in
    omega (arith, k.0, k.1)

pub overflow_add-dones : goal.overflow_add-dones
overflow_add-dones c =
    let w = c.weight-w in
    let k = put_small c.args.level c.from-byte.result c.args.done w.result w.ensures.0 (omega (arith, c.from-byte.ensures)) c.requires.1 in
    omega (arith, k.0, k.1)

pub overflow_cast-dones : goal.overflow_cast-dones
overflow_cast-dones c =
    let w = c.weight-w in
    let k = put_small c.args.level c.from-byte.result c.args.done w.result w.ensures.0 (omega (arith, c.from-byte.ensures)) c.requires.1 in
    omega (arith, k.0, k.1)

pub returns : goal.returns
returns c =
    let a = c.args in
    ap₂ (λ (b w : ℕ). set a.dones.now (a.level / 4) (b - b / w % 4 * w + a.done * w)) c.from-byte.ensures c.weight-w.ensures.0
