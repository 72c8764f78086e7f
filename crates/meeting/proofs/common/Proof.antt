-- `common` meets its contract: from a hit to the most general common instance.
use mathlib.Core.Path.{◌∙◌}
use native.Mathlib.Omega.{arith}
use Rattle.octets.proofs.PutLaws.{put-length}
use Rattle.instance.proofs.StartLaws.{hit-start}
use Rattle.meeting.specs.Ended.{ended-over}
use Rattle.meeting.proofs.TurnLaws.{starting, finished-ended}
use borrow.Author.Rules.{rules}
use Rattle.meeting.proofs.common.Statement.{statement}
use Rattle.meeting.proofs.common.Tie as tie

returns : tie.Need-returns-then-cells-lt64
returns c = ended-over (λ h l. absurd (let z : ⊥ = omega (arith, l.long, c.if-cells-lt64.true) in z))

returns-2 : tie.Need-returns-then-cells-gt-MEETING_CELLS
returns-2 c = ended-over (λ h l. absurd (let z : ⊥ = omega (arith, l.long, c.if-cells-gt-MEETING_CELLS.true) in z))

returns-3 : tie.Need-returns-then-other-cells
returns-3 c = ended-over (λ h l. absurd (let z : ⊥ = omega (arith, l.long, l.other-long, c.if-other-cells.true) in z))

put-apart-requires : tie.Need-put_apart-len-requires
put-apart-requires c κs = search rules

put-cells-requires : tie.Need-put_cells-n-requires
put-cells-requires c κs = search rules

meet-requires : tie.Need-meet-requires
meet-requires c κs =
    let at-put-cells = c.before.before.before.before in
    let at-put-apart = at-put-cells.before.before.before.before in
    let at-else3 = at-put-apart.before.before in
    let at-else2 = at-else3.before in
    starting (omega (arith, at-else2.if-cells-gt-MEETING_CELLS.false)) (omega (arith, at-else3.if-other-cells.false)) at-put-apart.put_apart-len.ensures at-put-cells.put_cells-n.ensures

same_length : tie.Need-shape_of-cells
same_length c = search rules

same-length-2 : tie.Need-shape_of-other
same-length-2 c = search rules

returns-4 : tie.Need-returns
returns-4 c =
    let at_meet = c.before.before.before.before in
    let at-put-cells = at_meet.before.before.before.before.before in
    let at-put-apart = at-put-cells.before.before.before.before in
    let at-else1 = at-put-apart.before.before.before.before in
    let p = at-put-apart.put_apart-len.ensures in
    let q = at-put-cells.put_cells-n.ensures in
    finished-ended (put-length q ∙ put-length p) at_meet.meet.auto.cells (λ h. hit-start h _ _ _ _ _ (omega (arith, at-else1.if-cells-lt64.false)) p q)
    at_meet.meet.ensures

pub common_spec : {M : Type 1} → statement M
common_spec =
    tie.close
    (tie.spec
    returns
    returns-2
    returns-3
    put-apart-requires
    put-cells-requires
    meet-requires
    same_length
    same-length-2
    returns-4)
