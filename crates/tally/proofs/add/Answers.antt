use Rattle.std.proofs.Common.{refl}
use Rattle.tally.proofs.AddLaws.{answered-adds, refused-adds}
use Rattle.tally.proofs.add.Goals as goal

pub returns-in-Ok : goal.returns-in-Ok
returns-in-Ok c =
    answered-adds _ _ c.args.answer c.args.room.now _ _ _ c.in-Ok.is c.part.ensures c.add_hits.ensures
    c.plus.ensures refl c.plus-in-Ok.ensures

pub returns-in-Err : goal.returns-in-Err
returns-in-Err c = refused-adds _ _ _ _ _ c.in-Err.is refl refl c.plus-in-Err.ensures refl
