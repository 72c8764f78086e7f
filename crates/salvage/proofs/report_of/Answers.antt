use mathlib.Core.Path.{refl}
use native.Mathlib.Omega.{arith}
use Rattle.salvage.proofs.GiveLaws.{rows_few, bad-count}
use Rattle.salvage.proofs.report_of.Goals as goal

pub overflow_sub-result : goal.overflow_sub-result
overflow_sub-result c = rows_few c.requires.0

pub returns : goal.returns
returns c =
    let t = c.requires.0 in
    record {
      rows = t.rows;
      dropped = omega (arith, t.rows, t.count);
      keeps = refl;
      table = omega (arith, t.end);
      plan = refl;
      bad = (bad-count t c.list_bad.ensures).many;
    }
