use Rattle.plannotes.proofs.HandedLaws.{for-run}
use Rattle.run.proofs.EntryLaws.{handed-refused}
use Rattle.run.proofs.run_noted.Goals as goal

pub returns-in-Err : goal.returns-in-Err
returns-in-Err c =
    λ t p ns h. handed-refused c.args.goal.now c.args.room.now h c.in-Err.is

pub returns-in-Ok : goal.returns-in-Ok
returns-in-Ok c =
    λ t p ns h. c.run_accepted.ensures t p (for-run h c.in-Ok.is)
