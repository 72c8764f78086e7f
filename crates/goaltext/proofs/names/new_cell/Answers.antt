use native.Mathlib.Omega.{arith}
use Rattle.goaltext.proofs.NameLaws.{cell-kept, cell-named}
use Rattle.goaltext.proofs.names.new_cell.Goals as goal

pub returns-in-Variable : goal.returns-in-Variable
returns-in-Variable c =
    let a = c.args in
    cell-kept a.numbers.now a.c _ c.shape_of.ensures c.in-Variable.is (λ e. omega arith)

pub returns-in-Name : goal.returns-in-Name
returns-in-Name c =
    let a = c.args in
    cell-named a.numbers.now a.c _ c.shape_of.ensures _ _ c.in-Name.is c.number_at.ensures
    c.name_cell.ensures

pub returns-in-Number : goal.returns-in-Number
returns-in-Number c =
    let a = c.args in
    cell-kept a.numbers.now a.c _ c.shape_of.ensures c.in-Number.is (λ e. omega arith)

pub returns-in-Refused : goal.returns-in-Refused
returns-in-Refused c =
    let a = c.args in
    cell-kept a.numbers.now a.c _ c.shape_of.ensures c.in-Refused.is (λ e. omega arith)
