-- `reply_all` meets its contract: the table is read again for where its rows start.
use mathlib.Core.Path.{sym, ◌∙◌}
use Rattle.table.specs.Table.{table_of}
use Rattle.table.proofs.ReadLaws.{apart}
use Rattle.table.proofs.PartLaws.{says-read, says-turned}
use Rattle.instance.proofs.PassLaws.{found-table}
use Rattle.replies.proofs.reply_all.Goals as goal

pub returns-in-Ok : goal.returns-in-Ok
returns-in-Ok c =
    λ plan f.
    let r = c.in-Ok.ensures in
    let k = says-read (table_of c.args.table.now) r.answer in
    c.put_replies.ensures plan (record { is = k.0; reads = k.1; begin = r.starts; many = k.3 }) f

pub returns-in-Err : goal.returns-in-Err
returns-in-Err c =
    λ plan f.
    let t = table_of c.args.table.now in
    let e = says-turned t c.in-Err.ensures.answer in
    apart (sym (found-table f) ∙ e)
