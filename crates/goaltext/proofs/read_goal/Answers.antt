use mathlib.Core.Path.{refl}
use native.Mathlib.Omega.{arith}
use Rattle.refusal.specs.Read.{refuse}
use Rattle.termtext.specs.Goal.{too_long}
use Rattle.goaltext.specs.Asked.{too_many, asked}
use Rattle.goaltext.proofs.read_goal.Goals as goal

pub returns-then-names-gt-NAMES : goal.returns-then-names-gt-NAMES
returns-then-names-gt-NAMES c =
    record {
      says = refuse _;
      rule = too_many (omega arith);
      answers = record { tells = c.refuse.ensures; wrote = refl; listed = refl };
    }

pub returns-then-goal-gt-GOAL_BYTES : goal.returns-then-goal-gt-GOAL_BYTES
returns-then-goal-gt-GOAL_BYTES c =
    record {
      says = refuse _;
      rule = asked (omega arith) (too_long (omega arith));
      answers = record { tells = c.refuse-then-goal-gt-GOAL_BYTES.ensures; wrote = refl; listed = refl };
    }
