use Rattle.std.proofs.Common.{◌≡◌, ◌-◌, true, false, sym, ◌∙◌, arith, rules}
use Rattle.octets.proofs.PutLaws.{put-length}
use Rattle.blocks.proofs.LookLaws.{look-begins, look-next, look-ends, good-ends, good_none}
use Rattle.blocks.proofs.run_in.Goals as goal

pub loop-i-init : goal.loop-i-init
loop-i-init c = (search rules, omega arith, look-begins _ _ _)

pub shape_of-room-then-not-look : goal.shape_of-room-then-not-look
shape_of-room-then-not-look c = put-length c.loop-i.invariant.2.puts.puts

pub returns-then-not-look : goal.returns-then-not-look
returns-then-not-look c =
    let bad : c.look.result ≡ false = search rules in
    let g = good-ends c.args.file.now c.loop-i.i (omega arith) (sym c.look.ensures.1 ∙ bad) in
    look-ends c.loop-i.invariant.2 g.0 g.1

pub loop-i-preserved : goal.loop-i-preserved
loop-i-preserved c =
    let l = c.loop-i in
    let e = c.look.ensures in
    let well : c.look.result ≡ true = search rules in (
      search rules,
      omega arith,
      look-next l.invariant.2 (omega arith) (sym e.1 ∙ well) (rw e.0 at c.put_cells-on.ensures),
    )

pub shape_of-room : goal.shape_of-room
shape_of-room c = put-length c.loop-i.invariant.2.puts.puts

pub returns : goal.returns
returns c =
    let l = c.loop-i in
    let g = good_none c.args.file.now l.i (omega arith) in
    let all : c.saturating_sub.result ≡ l.i - c.args.from = omega (arith, c.saturating_sub.ensures, l.invariant.1) in
    rw all (look-ends l.invariant.2 g.0 g.1)
