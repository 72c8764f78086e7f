use mathlib.Core.Path.{ap, subst, ◌∙◌}
use native.Mathlib.Omega.{arith}
use lib.ListN.{set}
use Rattle.cell.specs.Cell.{name_cell}
use Rattle.texttable.specs.code.Tree.{WordMet}
use Rattle.texttable.specs.code.Cells.{put-new, put-old}
use Rattle.texttable.proofs.NumberLaws.{met-low}
use Rattle.texttable.proofs.cells.put_name.Goals as goal

pub overflow_cast-n : goal.overflow_cast-n
overflow_cast-n c =
    let m = c.meet-n in
    omega (arith, met-low m.ensures)

pub returns-then-n-names : goal.returns-then-n-names
returns-then-n-names c =
    let a = c.args in
    let m = c.meet-n in
    put-new (subst (WordMet a.text.now a.list.now a.links.now a.names a.start a.end m.new.list m.new.links)
    c.if-n-names.true m.ensures)
    (ap (set a.cells.now a.count) (c.name.ensures ∙ ap (name_cell 0) c.if-n-names.true))

pub returns : goal.returns
returns c =
    let a = c.args in
    let m = c.meet-n in
    put-old m.ensures c.if-n-names.false (ap (set a.cells.now a.count) c.name.ensures)
