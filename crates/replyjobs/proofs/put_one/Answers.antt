use native.Mathlib.Omega.{arith}
use Rattle.replyjobs.proofs.OneLaws.{not-placed, placed-there}
use Rattle.replyjobs.proofs.put_one.Goals as goal

pub returns-in-Err : goal.returns-in-Err
returns-in-Err c =
    let a = c.args in
    λ plan h f l.
    not-placed a.room.now c.min-on.result a.one (omega arith) (c.put_replies.ensures plan h f) c.in-Err.is
    c.refused.ensures

pub returns-in-Ok : goal.returns-in-Ok
returns-in-Ok c =
    let a = c.args in
    λ plan h f l.
    placed-there a.room.now c.min-on.result a.one (omega arith) (c.put_replies.ensures plan h f) c.in-Ok.is
