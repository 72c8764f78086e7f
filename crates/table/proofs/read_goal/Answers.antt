use Rattle.std.proofs.lemmas.Result.{err_from_is_err_and}
use Rattle.table.specs.Table.{table_of}
use Rattle.table.proofs.PartLaws.{says-read, says-turned}
use Rattle.table.proofs.read_goal.Goals as goal

pub returns-in_err-read : goal.returns-in_err-read
returns-in_err-read c =
    let p = err_from_is_err_and c.from_residual.result c.from_residual.ensures.1 in
    rw (p.1, p.2, says-turned (table_of c.args.table.now) c.in_err-read.ensures.answer)

pub returns : goal.returns
returns c = let k = says-read (table_of c.args.table.now) c.in_ok-read.ensures.answer in rw (k.1, k.2) c.goal_for.ensures
