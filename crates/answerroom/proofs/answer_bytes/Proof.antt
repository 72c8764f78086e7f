use mathlib.Core.Path.{ap}
use native.Mathlib.Omega.{arith}
use lib.ListN.{length}
use Rattle.answerroom.proofs.RoomLaws.{said-long}
use borrow.Author.Rules.{rules}
use Rattle.answerroom.proofs.answer_bytes.Statement.{statement}
use Rattle.answerroom.proofs.answer_bytes.Tie as tie

part-requires : tie.Need-part-called-requires
part-requires c κs = search rules

add-result : tie.Need-overflow_add-result
add-result c = search rules

terms-bytes-requires : tie.Need-terms_bytes-requires
terms-bytes-requires c κs = search rules

add-result-2 : tie.Need-overflow_add-result-2
add-result-2 c = search rules

returns : tie.Need-returns
returns c =
    let b = c.before.before.before.before.before.before.before in
    let a = b.args in
    let t = c.terms_bytes.ensures in
    let called = ap length c.part-called.ensures in
    let e = said-long a.text.now a.names.now a.goal.now a.new.now a.p a.cells.now b.requires.0 in
    (omega (arith, called, e, t.0), omega (arith, called, t.1, b.requires.1))

pub answer_bytes_spec : {M : Type 1} → statement M
answer_bytes_spec =
    tie.close (tie.spec part-requires add-result terms-bytes-requires add-result-2 returns)
