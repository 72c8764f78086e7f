use Rattle.std.proofs.Common.{ℕ, [], ◌∷◌, ◌++◌, take, sym, ap, ◌∙◌, arith}
use lib.Seq.{take_all}
use Rattle.term.specs.Unify.{renamed}
use Rattle.octets.proofs.PutLaws.{put-nothing}
use Rattle.instance.proofs.RewriteLaws.{put-more, renamed-next}
use Rattle.rewrite.proofs.put_apart.Goals as goal

pub loop-c-init : goal.loop-c-init
unfolding renamed
loop-c-init c = put-nothing

pub loop-c-preserved : goal.loop-c-preserved
loop-c-preserved c =
    let l = c.loop-c in
    let i = l.c-index in
    let g = c.args.goal.now in
    let e = renamed-next g i (omega arith) ∙ ap (λ (x : ℕ). renamed (take i g) ++ (x ∷ [])) (sym c.moved.ensures) in
    put-more e l.invariant c.put_cell-on.ensures

pub returns : goal.returns
returns c =
    let l = c.loop-c in
    rw (take_all l.c-index c.args.goal.now (omega arith)) at l.invariant
