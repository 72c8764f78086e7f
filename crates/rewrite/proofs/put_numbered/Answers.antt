use Rattle.std.proofs.Common.{rules, ℕ, List, [], ◌+◌, take, drop, refl, ap, ◌∙◌, arith}
use Rattle.octets.proofs.PutLaws.{put-nothing, put-late, put_next, put_all}
use Rattle.instance.specs.Rewrite.{number_in}
use Rattle.instance.proofs.NumberLaws.{number-cell, number-next, number-long}
use Rattle.rewrite.proofs.put_numbered.Goals as goal

pub returns-then-out-to : goal.returns-then-out-to
returns-then-out-to c = put-late _ _ _ (omega arith)

pub loop-c-init : goal.loop-c-init
loop-c-init c = (omega arith, search rules, refl, put-nothing)

pub loop-c-preserved : goal.loop-c-preserved
loop-c-preserved c =
    let l = c.loop-c in
    let i = l.c-index in
    let cells = c.args.cells.now in
    let q = c.number-q.ensures in
    let W = number_in 64 [] cells in
    let n = number-next W i l.invariant.2 (number-cell 64 (take l.k l.met) cells i (omega arith)) in (
      q.2,
      q.3,
      ap (λ (m : List ℕ). number_in 64 m (drop (i + 1) cells)) q.1 ∙ n.2,
      put_next W i n.0 (q.0 ∙ n.1) l.invariant.3 c.put_cell-on.ensures,
    )

pub returns : goal.returns
returns c =
    let l = c.loop-c in
    let cells = c.args.cells.now in
    put_all (number_in 64 [] cells) l.c-index (omega (arith, number-long 64 [] cells)) l.invariant.3
