use Rattle.std.proofs.Common.{arith}
use Rattle.shift.proofs.JobsLaws.{past, refused-alone, found-alone}
use Rattle.shift.proofs.jobs.ask_one.Goals as goal

pub returns-then-cells-start : goal.returns-then-cells-start
returns-then-cells-start c =
    let a = c.args in
    past a.cells.now a.j (omega arith) c.refused.ensures

pub returns-then-cells-start-2 : goal.returns-then-cells-start-2
returns-then-cells-start-2 c =
    let a = c.args in
    past a.cells.now a.j (omega arith) c.refused-then-cells-start-2.ensures

pub returns-in-Err : goal.returns-in-Err
returns-in-Err c =
    let a = c.args in
    refused-alone a.cells.now a.j (omega arith) c.run_noted.ensures c.in-Err.is c.refused-in-Err.ensures

pub returns-in-Ok : goal.returns-in-Ok
returns-in-Ok c =
    let a = c.args in
    found-alone a.cells.now a.j (omega arith) c.run_noted.ensures c.in-Ok.is (omega arith) c.bits.ensures
