-- `pass::pass_in` meets its contract: the hits one after another.
use mathlib.Core.Path.{◌≡◌, refl, sym, ◌∙◌}
use lib.ListN.{length}
use native.Mathlib.Omega.{arith}
use lib.Seq.{length-take-le}
use Rattle.octets.proofs.PutLaws.{put-length}
use Rattle.instance.proofs.PassLaws.{pass-start, pass-next, pass-large}
use Rattle.meeting.proofs.PartLaws.{put_in}
use Rattle.replies.proofs.PassedLaws.{within_by, hit-met, hit-over}
use Rattle.replies.proofs.pass.pass_in.Goals as goal

pub returns-then-hits-gt-ROWS : goal.returns-then-hits-gt-ROWS
returns-then-hits-gt-ROWS c = (
  record { within = omega arith; inside = omega arith; small = omega arith; pass = λ all a. pass-start a.at },
  λ k all a l. absurd (let z : ⊥ = omega (arith, a.few, c.if-hits-gt-ROWS.true) in z),
)

pub loop-i-init : goal.loop-i-init
loop-i-init c =
    (omega (arith, c.if-hits-gt-ROWS.false), refl, refl, refl, omega arith, omega arith, λ all a. pass-start a.at)

pub slice_bounds-put_numbered-end : goal.slice_bounds-put_numbered-end
slice_bounds-put_numbered-end c =
    within_by c.in-Some.is c.common.ensures

pub slice_bounds-put_numbered-end-in-Some : goal.slice_bounds-put_numbered-end-in-Some
slice_bounds-put_numbered-end-in-Some c =
    sym (length-take-le _ _ (within_by c.in-Some.is c.common.ensures))

pub overflow_add-sum : goal.overflow_add-sum
overflow_add-sum c =
    let l = c.loop-i.invariant in
    omega (arith, l.0, l.4, within_by c.in-Some.is c.common.ensures, c.common.auto.cells, l.1, c.requires)

pub loop-i-preserved : goal.loop-i-preserved
loop-i-preserved c =
    let l = c.loop-i.invariant in
    let q = c.put_numbered-on.ensures in
    let g = c.in-Some.is in
    let m = within_by g c.common.ensures in
    let e = c.common.auto.cells ∙ l.1 in (
      l.0,
      e,
      c.common.auto.other ∙ l.2,
      put-length q ∙ l.3,
      omega (arith, l.4, m, e, c.requires),
      omega (arith, (put_in q l.5).1, put-length q),
      λ all a.
          pass-next (l.6 all a) (omega arith)
          (hit-met a (l.6 all a) (omega arith) c.row_at-p.ensures c.part-row.ensures c.common.ensures g) q,
    )

pub shape_of-cells-in-None : goal.shape_of-cells-in-None
shape_of-cells-in-None c =
    c.common.auto.cells ∙ c.loop-i.invariant.1

pub shape_of-other-in-None : goal.shape_of-other-in-None
shape_of-other-in-None c =
    c.common.auto.other ∙ c.loop-i.invariant.2

pub shape_of-room-in-None : goal.shape_of-room-in-None
shape_of-room-in-None c = c.loop-i.invariant.3

pub returns-in-None : goal.returns-in-None
returns-in-None c =
    let l = c.loop-i.invariant in (
      record { within = omega arith; inside = omega (arith, l.3, l.5); small = omega (arith, l.0, l.4); pass = l.6 },
      λ k all a h.
          pass-large (l.6 all a) (omega arith)
          (hit-over a (l.6 all a) (omega arith) c.row_at-p.ensures c.part-row.ensures c.common.ensures c.in-None.is (record { long = l.1 ∙ k.long; other-long = l.2 ∙ k.other-long })),
    )

pub shape_of-cells : goal.shape_of-cells
shape_of-cells c = c.loop-i.invariant.1

pub shape_of-other : goal.shape_of-other
shape_of-other c = c.loop-i.invariant.2

pub shape_of-room : goal.shape_of-room
shape_of-room c = c.loop-i.invariant.3

pub returns : goal.returns
returns c =
    let l = c.loop-i.invariant in
    let e : c.loop-i.i ≡ length c.args.hits.now = omega arith in (
      record { within = omega arith; inside = omega (arith, l.3, l.5); small = omega (arith, l.0, l.4); pass = λ all a. rw e at (l.6 all a) },
      λ k all a h. absurd (let z : ⊥ = omega (arith, h) in z),
    )
