-- What the check answers (01, "What is turned away": checking returns the plan's number of branches).
use Rattle.std.specs.Prelude.{ℕ}
use Rattle.std.specs.Prelude.{Result, Ok, Err}
use Rattle.refusal.specs.declared.Refusal.{Refusal}
use Rattle.refusal.specs.Refusal.{told, Answer, answered, turned}
use Rattle.refusal.specs.Read.{Read, read, refuse}

-- the check has one value: the plan's number of branches. The second is 0
abbrev pub plan_says : Read ℕ → Answer
plan_says (read n) = answered n 0
plan_says (refuse f) = turned f

abbrev pub plan_told : Result ℕ Refusal → Answer
plan_told (Ok n) = answered n 0
plan_told (Err f) = turned (told f)
