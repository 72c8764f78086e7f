use Rattle.shift.proofs.total_tried.Goals as goal

pub returns : goal.returns
returns c =
    let a = c.args in
    c.add_all.ensures a.table.now a.plan.now _ c.check_noted-noted.ensures
