-- What the walk over a plan answers (02, W-210, "Write an accepted plan as clauses .. Refusals, after table and plan: ..").
use Rattle.std.specs.Prelude.{ℕ, ◌≡◌, List, Result, Ok, Err}
use Rattle.refusal.specs.declared.Refusal.{Refusal}
use Rattle.refusal.specs.Refusal.{told}
use Rattle.refusal.specs.Read.{read, refuse}
use Rattle.table.specs.Table.{Table}
use Rattle.plan.specs.Plans.{Plan, write}
use Rattle.octets.specs.Octets.{Put}
use Rattle.clauses.specs.Program.{program}
use Rattle.clauses.specs.Handed.{hand_of}
use Rattle.unfolding.specs.Flat.{flat}

-- the table or the plan is refused, and nothing is written; or what fits of the plan's program is put, and its end is answered
pub data Unfolds (table plan room room' : List ℕ) (result : Result ℕ Refusal) : Type 0 where
  refusal : (f : Refusal) → hand_of table plan ≡ refuse (told f) → result ≡ Err f → room' ≡ room
      → Unfolds table plan room room' result
  made : (T : Table) (tree : Plan T.width T.rows) (n : ℕ) → hand_of table plan ≡ read T → plan ≡ write tree → result ≡ Ok n
      → Put room room' 0 (flat (program tree)) n → Unfolds table plan room room' result
