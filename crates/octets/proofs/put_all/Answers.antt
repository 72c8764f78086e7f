use Rattle.std.proofs.Common.{◌≡◌, ◌+◌, sym, subst, ap, ◌∙◌, slice_set, arith}
use Rattle.std.proofs.lemmas.List.Edits.{paste_more}
use lib.Seq.{paste}
use Rattle.octets.specs.code.Room.{Puts}
use Rattle.octets.proofs.RoomLaws.{puts-pasted}
use Rattle.octets.proofs.put_all.Goals as goal

pub loop-i-preserved : goal.loop-i-preserved
loop-i-preserved g c =
    let a = c.args in
    let l = c.loop-i in
    let x = c.index-xs-i.result in
    ap (λ o. slice_set o (a.to + l.i) x) l.invariant ∙ ap (slice_set (paste a.out.now a.to a.xs.now l.i) (a.to + l.i)) c.index-xs-i.is
    ∙ paste_more a.out.now a.to a.xs.now l.i x (omega (arith, c.min-n.ensures)) (omega (arith, c.min-n.ensures))

pub returns : goal.returns
returns g c =
    let a = c.args in
    let l = c.loop-i in
    let n = c.min-n.result in
    let e : l.i ≡ n = omega arith in
    subst (λ o. Puts a.out.now o a.to a.xs.now (a.to + n)) (sym (l.invariant ∙ ap (paste a.out.now a.to a.xs.now) e))
    (puts-pasted a.out.now a.xs.now a.to n (omega arith) c.min-n.ensures)
