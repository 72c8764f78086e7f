use mathlib.Core.Path.{◌≡◌}
use native.Mathlib.Omega.{arith}
use lib.ListN.{length}
use Rattle.refusal.specs.Read.{read}
use Rattle.table.specs.Table.{goal_of}
use Rattle.table.proofs.Accepted.{is-goal}
use Rattle.run.proofs.EntryLaws.{says-goal, says-no-goal, no-goal, no_room, few-rows, opened, walked}
use Rattle.run.proofs.run_accepted.Goals as goal
use Rattle.run.proofs.run_accepted.Goals.{In-Ok}

-- the goal is accepted: what its answer tells
told : (c : In-Ok) →
    (goal_of c.args.width c.args.goal.now ≡ read c.in-Ok.size.vars) × (c.in-Ok.size.cells ≡ length c.args.goal.now)
told c =
    says-goal c.args.goal.now (goal_of c.args.width c.args.goal.now) c.goal_for.ensures c.in-Ok.is

pub returns-then-room-rows : goal.returns-then-room-rows
returns-then-room-rows c =
    λ t p A. no_room A c.args.goal.now c.args.room.now (told (goal.at.returns-then-room-rows c).In-Ok).0 c.if-room-rows.true

pub returns-then-size : goal.returns-then-size
returns-then-size c =
    λ t p A. opened A c.args.goal.now (told (goal.at.returns-then-size c).In-Ok).0 c.args.room.now (omega arith) (omega (arith, (told (goal.at.returns-then-size c).In-Ok).1)) _
    (c.put_rows.ensures (omega arith) (omega (arith, few-rows A)))

pub walk-requires : goal.walk-requires
walk-requires c =
    (is-goal c.args.width c.args.goal.now (told (goal.at.walk-requires c).In-Ok).0).0

pub returns-in-Err : goal.returns-in-Err
returns-in-Err c =
    λ t p A. no-goal A c.args.goal.now c.args.room.now
    (says-no-goal c.args.goal.now (goal_of c.args.width c.args.goal.now) c.goal_for.ensures c.in-Err.is)

pub returns-else-size : goal.returns-else-size
returns-else-size c =
    λ t p A. walked A c.args.goal.now (told (goal.at.returns-else-size c).In-Ok).0 c.args.room.now (omega arith) _ _ _ c.walk.ensures
