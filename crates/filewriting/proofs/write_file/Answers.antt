use mathlib.Core.Path.{refl}
use Rattle.std.proofs.lemmas.Result.{err_from_is_err_and}
use Rattle.plan.specs.Check.{plan_of}
use Rattle.filing.specs.Files.{not-accepted}
use Rattle.filing.proofs.Undo.{accepted-sizes}
use Rattle.checker.proofs.SaidLaws.{said_read, said-refused}
use Rattle.filewriting.proofs.write_file.Goals as goal

pub put_file-requires : goal.put_file-requires
put_file-requires c =
    let a = c.args in
    let e = said_read (plan_of a.table.now a.plan.now) c.check_plan.ensures c.in_ok-check_plan.was in
    let z = accepted-sizes a.table.now a.plan.now e in
    (z.0, z.1, refl)

pub returns : goal.returns
returns c =
    let a = c.args in
    c.put_file.ensures _ (said_read (plan_of a.table.now a.plan.now) c.check_plan.ensures c.in_ok-check_plan.was)

pub returns-in_err-check_plan : goal.returns-in_err-check_plan
returns-in_err-check_plan c =
    let a = c.args in
    let p = err_from_is_err_and c.from_residual.result c.from_residual.ensures.1 in
    rw (p.1, p.2) (not-accepted _ (said-refused (plan_of a.table.now a.plan.now) c.check_plan.ensures c.in_err-check_plan.was) refl refl)
