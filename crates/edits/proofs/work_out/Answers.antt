use Rattle.std.proofs.Common.{◌≤◌, arith, rules}
use Rattle.std.proofs.lemmas.Result.{err_from_is_err_and}
use Rattle.edits.proofs.WorkLaws.{small, worked-anew, none-worked}
use Rattle.edits.proofs.work_out.Goals as goal

pub returns-in_err-read : goal.returns-in_err-read
returns-in_err-read c =
    let p = err_from_is_err_and c.from_residual.result c.from_residual.ensures.1 in
    rw (p.1, p.2) (none-worked _ _ _ c.read_by.ensures c.in_err-read.was)

pub copy-requires : goal.copy-requires
copy-requires c = omega (arith, small _ _ c.args.rec.now c.read_by.ensures c.in_ok-read.was)

pub put-requires : goal.put-requires
put-requires c = (search rules, small _ _ c.args.rec.now c.read_by.ensures c.in_ok-read.was)

pub returns : goal.returns
returns c =
    worked-anew _ _ c.args.rec.now c.read_by.ensures c.in_ok-read.was (omega arith)
    c.clear.ensures c.copy.ensures c.fill.ensures c.put.ensures
