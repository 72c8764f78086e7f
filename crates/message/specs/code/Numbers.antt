-- The words for a reason, found by 01's number as the code finds them.
use Rattle.std.specs.Prelude.{ℕ, cond, List, eqb}
use Rattle.refusal.specs.declared.Reason.TheVariants as reason
use Rattle.message.specs.Message.{by_number, facts_reason, goal_reason}

unfoldable pub facts_number : ℕ → List ℕ → List ℕ
facts_number number said =
    cond (eqb number 1) (facts_reason reason.Length said)
    (cond (eqb number 2) (facts_reason reason.Width said)
    (cond (eqb number 3) (facts_reason reason.Count said)
    (cond (eqb number 4) (facts_reason reason.Long said)
    (cond (eqb number 17) (facts_reason reason.Bytes said)
    (cond (eqb number 18) (facts_reason reason.Text said)
    (cond (eqb number 19) (facts_reason reason.Other said)
    (cond (eqb number 24) (facts_reason reason.Same said)
    (by_number number))))))))

unfoldable pub goal_number : ℕ → List ℕ → List ℕ
goal_number number said =
    cond (eqb number 1) (goal_reason reason.Length said)
    (cond (eqb number 17) (goal_reason reason.Bytes said)
    (cond (eqb number 18) (goal_reason reason.Text said)
    (cond (eqb number 19) (goal_reason reason.Other said)
    (cond (eqb number 25) (goal_reason reason.Big said)
    (by_number number)))))
