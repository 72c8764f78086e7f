use Rattle.run.proofs.run_plan.Goals as goal

pub returns : goal.returns
returns c =
    c.run_noted.ensures c.args.table.now c.args.plan.now _ c.check_noted-noted.ensures
