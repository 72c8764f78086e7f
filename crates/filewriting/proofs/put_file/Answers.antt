use mathlib.Core.Path.{◌≡◌, refl, ap}
use Prim.Native.Nat.{◌+◌, ◌/◌}
use native.Mathlib.Omega.{arith}
use lib.ListN.{length}
use Rattle.filing.specs.Files.{stream, needed}
use Rattle.filing.specs.Answers.{written_told}
use Rattle.filing.proofs.WriteLaws.{laid, no_room_lem, file-put}
use Rattle.filewriting.proofs.put_file.Goals as goal

pub overflow_add-blocks : goal.overflow_add-blocks
overflow_add-blocks c =
    let l = laid c.args.table.now c.args.plan.now (c.requires.0, c.requires.1) c.requires.2 c.lay-n.ensures in
    omega (arith, l.2)

pub overflow_mul-bytes : goal.overflow_mul-bytes
overflow_mul-bytes c =
    let l = laid c.args.table.now c.args.plan.now (c.requires.0, c.requires.1) c.requires.2 c.lay-n.ensures in
    omega (arith, l.2)

pub returns-then-room-bytes : goal.returns-then-room-bytes
returns-then-room-bytes c =
    let t = c.args.table.now in
    let p = c.args.plan.now in
    let l = laid t p (c.requires.0, c.requires.1) c.requires.2 c.lay-n.ensures in
    let k : (c.lay-n.result + 124) / 125 ≡ needed (length (stream t p)) = ap needed l.0 in
    λ n e. no_room_lem t p (c.requires.0, c.requires.1) e (omega (arith, k)) (omega arith) (ap written_told c.turn.ensures)

pub put_blocks-requires : goal.put_blocks-requires
put_blocks-requires c =
    let l = laid c.args.table.now c.args.plan.now (c.requires.0, c.requires.1) c.requires.2 c.lay-n.ensures in
    (omega (arith, l.2, l.3), omega (arith, l.2))

pub returns : goal.returns
returns c =
    let t = c.args.table.now in
    let p = c.args.plan.now in
    let l = laid t p (c.requires.0, c.requires.1) c.requires.2 c.lay-n.ensures in
    λ n e. file-put t p (c.requires.0, c.requires.1) e l.1 (ap needed l.0) refl (omega arith) c.put_blocks.ensures refl
