use mathlib.Core.Path.{sym, ◌∙◌, ap}
use lib.ListN.{set}
use lib.Seq.{set-get_or}
use Rattle.walking.proofs.NodeLaws.{first-none, first_some}
use borrow.Author.Rules.{rules}
use Rattle.run.proofs.nodes.first_cell.Statement.{statement}
use Rattle.run.proofs.nodes.first_cell.Tie as tie

element-copy-out-f : tie.Need-bounds-first-v
element-copy-out-f c = search rules

cast-q : tie.Need-overflow_cast-q
cast-q c = search rules

element-write-first : tie.Need-bounds-first-v-then-f-eq-NONE
element-write-first c = search rules

returns : tie.Need-returns-then-f-eq-NONE
returns c =
    let a = c.args in
    let e = first-none a.first.now a.v a.p c.if-f-eq-NONE.true in
    (sym e, ap (set a.first.now a.v) (sym e))

returns-2 : tie.Need-returns
returns-2 c =
    let a = c.args in
    let e = first_some a.first.now a.v a.p c.if-f-eq-NONE.false in
    (sym e, sym (ap (set a.first.now a.v) e ∙ set-get_or a.first.now a.v 0))

pub first_cell_spec : {M : Type 1} → statement M
first_cell_spec =
    tie.close (tie.spec element-copy-out-f cast-q element-write-first returns returns-2)
