use Rattle.std.proofs.Common.{arith}
use Rattle.state.proofs.FirstLaws.{table-rows}
use Rattle.state.proofs.FlagsLaws.{mask-few}
use Rattle.checker.proofs.EntryLaws.{said_under}
use Rattle.checker.proofs.check_for.Goals as goal

pub check_rows-requires : goal.check_rows-requires
check_rows-requires c =
    let n = c.named_of-named.ensures in (
      table-rows _ c.read_table.ensures c.in_ok-read.was,
      rw (n.0, n.1) (mask-few _ c.args.columns.now (omega arith)),
    )

pub returns : goal.returns
returns c =
    let n = c.named_of-named.ensures in
    said_under _ _ c.args.table.now c.args.columns.now c.args.plan.now n.0 n.1 c.check_rows.ensures
