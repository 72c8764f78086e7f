use mathlib.Core.Path.{refl}
use native.Mathlib.Omega.{arith}
use Rattle.refusal.specs.declared.Reason.TheVariants as reason
use Rattle.refusal.specs.declared.Input.TheVariants as input
use Rattle.refusal.proofs.CodedLaws.{refused-small, small_by}
use Rattle.answerroom.specs.Room.{too-big}
use Rattle.answerroom.proofs.RoomLaws.{predicate-short, short-room, is-put}
use borrow.Author.Rules.{rules}
use Rattle.answerroom.proofs.put_answer.Statement.{statement}
use Rattle.answerroom.proofs.put_answer.Tie as tie

refuse-requires : tie.Need-refuse-requires
refuse-requires c κs = search rules

returns : tie.Need-returns-then-cells-gt-REPLY_CELLS
returns c =
    let e = c.refuse.ensures in
    (too-big c.if-cells-gt-REPLY_CELLS.true e refl, small_by e (refused-small reason.Big input.Goal 0 (omega arith)))

predicate-of-requires : tie.Need-predicate_of-p-requires
predicate-of-requires c κs = search rules

answer-bytes-requires : tie.Need-answer_bytes-need-requires
answer-bytes-requires c κs = (omega arith, predicate-short c.predicate_of-p.ensures)

refuse-requires-2 : tie.Need-refuse-requires-then-room-need
refuse-requires-2 c κs = search rules

returns-2 : tie.Need-returns-then-room-need
returns-2 c =
    let n = c.before.before in
    let b = n.answer_bytes-need.ensures in
    let e = c.refuse-then-room-need.ensures in (
      short-room (omega arith) n.predicate_of-p.ensures b.0 c.if-room-need.true e,
      small_by e (refused-small reason.Room input.Lent n.answer_bytes-need.result (omega (arith, b.1))),
    )

put-answer-requires : tie.Need-put_answer-requires
put-answer-requires c κs = search rules

same_length : tie.Need-shape_of-room
same_length c = search rules

returns-3 : tie.Need-returns
returns-3 c =
    let p = c.before.before in
    let n = p.before.before.before in
    let b = n.answer_bytes-need.ensures in
    (is-put (omega arith) n.predicate_of-p.ensures b.0 (omega arith) p.put_answer.ensures, (omega arith, omega (arith, b.1)))

pub put_answer_spec : {M : Type 1} → statement M
put_answer_spec =
    tie.close
    (tie.spec
    refuse-requires
    returns
    predicate-of-requires
    answer-bytes-requires
    refuse-requires-2
    returns-2
    put-answer-requires
    same_length
    returns-3)
