use native.Mathlib.Omega.{arith}
use Rattle.goaltext.proofs.StepLaws.{ours-by}
use borrow.Author.Rules.{rules}
use Rattle.goaltext.proofs.is_ours.Statement.{statement}
use Rattle.goaltext.proofs.is_ours.Tie as tie

returns : tie.Need-returns-then-c-ne1
returns c = search rules

returns-2 : tie.Need-returns-then-p-c
returns-2 c = search rules

part-requires : tie.Need-part-requires
part-requires c κs = search rules

part-requires-2 : tie.Need-part-requires-2
part-requires-2 c κs = search rules

same-bytes-requires : tie.Need-same_bytes-requires
same-bytes-requires c κs = search rules

returns-3 : tie.Need-returns
returns-3 c =
    let a = c.args in
    ours-by a.text.now a.p a.whole.now a.s a.c _ c.same_bytes.ensures c.part.ensures
    c.part-2.ensures
    (omega arith) (omega arith)

pub is_ours_spec : {M : Type 1} → statement M
is_ours_spec =
    tie.close
    (tie.spec returns returns-2 part-requires part-requires-2 same-bytes-requires returns-3)
