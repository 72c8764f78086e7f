use native.Mathlib.Omega.{arith}
use Rattle.scan.proofs.SaysLaws.{counts-read}
use Rattle.texttable.proofs.WordLaws.{names-passed, names-counted, names-listed}
use borrow.Author.Rules.{rules}
use Rattle.texttable.proofs.read_names.Goals as goal

pub overflow_add-c : goal.overflow_add-c
overflow_add-c c = omega (arith, (counts-read c.requires).2)

pub returns-then-room-c : goal.returns-then-room-c
returns-then-room-c c = λ C.
    let a = c.args in
    names-passed a.text.now a.room a.list.now a.made.now C c.if-room-c.true

pub count_names-requires : goal.count_names-requires
count_names-requires c = (counts-read c.requires).0

pub returns-then-c-gt-NAMES : goal.returns-then-c-gt-NAMES
returns-then-c-gt-NAMES c = λ C.
    let a = c.args in
    names-counted a.text.now a.room a.list.now a.made.now C c.if-room-c.false c.if-c-gt-NAMES.true
    c.count_names.ensures

pub make_table-requires : goal.make_table-requires
make_table-requires c =
    (c.requires, c.if-c-gt-NAMES.false, search rules, search rules)

pub returns : goal.returns
returns c = λ C.
    let a = c.args in
    names-listed a.text.now a.room a.list.now a.made.now C c.if-room-c.false c.if-c-gt-NAMES.false (c.make_table.ensures C)
